-- A bare word is no option to clap.
use Rattle.std.proofs.Common.{◌≡◌, ◌∙◌, Bool, true, false, true≢false, [], ◌∷◌, None, refl, sym, ap}
use Rattle.std.specs.Prelude.{◌==◌, not}
use Rattle.std.specs.Str.{bytes_eq}
use Rattle.clap.specs.Lexer.{long_of, short_of}
use Rattle.clap.specs.Walk.{Text}
use Rattle.word_parts.specs.Parts.{is_bare}

pub not_dashes : (word : Text) → is_bare word ≡ true → bytes_eq word (45 ∷ 45 ∷ []) ≡ false
not_dashes [] bare = refl
not_dashes (byte ∷ []) bare = go (byte == 45) refl
  where
    go : (b : Bool) → (byte == 45) ≡ b → bytes_eq (byte ∷ []) (45 ∷ 45 ∷ []) ≡ false
    go true is = rw is refl
    go false is = rw is refl
not_dashes (byte ∷ next ∷ rest) bare = go (byte == 45) refl bare
  where
    go : (b : Bool) → (byte == 45) ≡ b → not (byte == 45) ≡ true → bytes_eq (byte ∷ next ∷ rest) (45 ∷ 45 ∷ []) ≡ false
    go true is bare = absurd (true≢false (sym bare ∙ ap not is))
    go false is bare = rw is refl

pub not_long : (word : Text) → is_bare word ≡ true → long_of word ≡ None
not_long [] bare = refl
not_long (byte ∷ []) bare = go (byte == 45) refl
  where
    go : (b : Bool) → (byte == 45) ≡ b → long_of (byte ∷ []) ≡ None
    go true is = rw is refl
    go false is = rw is refl
not_long (byte ∷ next ∷ rest) bare = go (byte == 45) refl bare
  where
    go : (b : Bool) → (byte == 45) ≡ b → not (byte == 45) ≡ true → long_of (byte ∷ next ∷ rest) ≡ None
    go true is bare = absurd (true≢false (sym bare ∙ ap not is))
    go false is bare = rw is refl

pub not_short : (word : Text) → is_bare word ≡ true → short_of word ≡ None
not_short [] bare = refl
not_short (byte ∷ []) bare = go (byte == 45) refl
  where
    go : (b : Bool) → (byte == 45) ≡ b → short_of (byte ∷ []) ≡ None
    go true is = rw is refl
    go false is = rw is refl
not_short (byte ∷ next ∷ rest) bare = go (byte == 45) refl bare
  where
    go : (b : Bool) → (byte == 45) ≡ b → not (byte == 45) ≡ true → short_of (byte ∷ next ∷ rest) ≡ None
    go true is bare = absurd (true≢false (sym bare ∙ ap not is))
    go false is bare = rw is refl
