-- A file is in order or bad, and bad in one way.
use Rattle.std.proofs.Common.{◌≡◌, ◌⊎◌, ℕ, List, [], ◌∷◌, ◌++◌, Option, Some, None, refl, sym, ap, ◌∙◌, subst, inl, inr}
use Rattle.cube_language.specs.declared.cubes_fault.CubesFault.{CubesFault}
use Rattle.cube_language.specs.declared.decl.Decl.{Decl}
use Rattle.cube_language.specs.declared.piece.Piece.{Piece}
use Rattle.cube_language.specs.declared.piece.ScriptFault.{ScriptFault}
use Rattle.cube_language.specs.CubesText.{Declares, HasCubesFault}
use Rattle.cube_language.specs.Pieces.{IsScript, HasScriptFault}
use Rattle.outside.specs.Given.{Given, missing, too_long, whole}
use Rattle.run_files.specs.declared.bad_file.BadFile.{BadFile}
use Rattle.run_files.specs.declared.bad_file.BadFile.TheVariants.{Absent, ReadFailed, CubesTooLong, Cubes, ScriptTooLong, Script}
use Rattle.run_files.specs.RunFiles.{RunFile, CubesFile, ScriptFile, FileReading, Gives, Fails, file_name, IsTextOf, IsRefusedText, IsRefusedSize, IsAbsent, IsUnread, ReadsInOrder, IsBad, AreInOrder, FirstBad, FilesEnd}

-- What is known of texts: each is in order or refused, in one way.
pub record TextsAreKnown : Type 0 where
  pub cubes_either : (text : List ℕ) → ((cubes : List Decl) × Declares text cubes) ⊎ ((fault : CubesFault) × HasCubesFault text fault)
  pub cubes_good : (text : List ℕ) (cubes : List Decl) (fault : CubesFault) → Declares text cubes → HasCubesFault text fault → ⊥
  pub cubes_one : (text : List ℕ) (a b : CubesFault) → HasCubesFault text a → HasCubesFault text b → a ≡ b
  pub script_either : (text : List ℕ) → ((pieces : List Piece) × IsScript text pieces) ⊎ ((fault : ScriptFault) × HasScriptFault text fault)
  pub script_good : (text : List ℕ) (pieces : List Piece) (fault : ScriptFault) → IsScript text pieces → HasScriptFault text fault → ⊥
  pub script_one : (text : List ℕ) (a b : ScriptFault) → HasScriptFault text a → HasScriptFault text b → a ≡ b

-- which fault stands for which cause
unread_is : (file : RunFile) (bad : BadFile) → IsUnread file bad → bad ≡ ReadFailed (file_name file)
unread_is file (Absent name) h = absurd h
unread_is file (ReadFailed name) h = ap ReadFailed h
unread_is file (CubesTooLong size) h = absurd h
unread_is file (Cubes fault) h = absurd h
unread_is file (ScriptTooLong number size) h = absurd h
unread_is file (Script number fault) h = absurd h

absent_is : (file : RunFile) (bad : BadFile) → IsAbsent file bad → bad ≡ Absent (file_name file)
absent_is file (Absent name) h = ap Absent h
absent_is file (ReadFailed name) h = absurd h
absent_is file (CubesTooLong size) h = absurd h
absent_is file (Cubes fault) h = absurd h
absent_is file (ScriptTooLong number size) h = absurd h
absent_is file (Script number fault) h = absurd h

abbrev too_large : RunFile → ℕ → BadFile
too_large (CubesFile name) size = CubesTooLong size
too_large (ScriptFile session name) size = ScriptTooLong session size

size_is : (file : RunFile) (size : ℕ) (bad : BadFile) → IsRefusedSize file size bad → bad ≡ too_large file size
size_is (CubesFile name) size (Absent other) h = absurd h
size_is (CubesFile name) size (ReadFailed other) h = absurd h
size_is (CubesFile name) size (CubesTooLong found) h = ap CubesTooLong h
size_is (CubesFile name) size (Cubes fault) h = absurd h
size_is (CubesFile name) size (ScriptTooLong number found) h = absurd h
size_is (CubesFile name) size (Script number fault) h = absurd h
size_is (ScriptFile session name) size (Absent other) h = absurd h
size_is (ScriptFile session name) size (ReadFailed other) h = absurd h
size_is (ScriptFile session name) size (CubesTooLong found) h = absurd h
size_is (ScriptFile session name) size (Cubes fault) h = absurd h
size_is (ScriptFile session name) size (ScriptTooLong number found) h = ap (λ n. ScriptTooLong n found) h.0 ∙ ap (ScriptTooLong session) h.1
size_is (ScriptFile session name) size (Script number fault) h = absurd h

cubes_text_is : (name text : List ℕ) (bad : BadFile) → IsRefusedText (CubesFile name) text bad → (fault : CubesFault) × (bad ≡ Cubes fault) × HasCubesFault text fault
cubes_text_is name text (Absent other) h = absurd h
cubes_text_is name text (ReadFailed other) h = absurd h
cubes_text_is name text (CubesTooLong found) h = absurd h
cubes_text_is name text (Cubes fault) h = (fault, refl, h)
cubes_text_is name text (ScriptTooLong number found) h = absurd h
cubes_text_is name text (Script number fault) h = absurd h

script_text_is : (session : ℕ) (name text : List ℕ) (bad : BadFile) → IsRefusedText (ScriptFile session name) text bad → (fault : ScriptFault) × (bad ≡ Script session fault) × HasScriptFault text fault
script_text_is session name text (Absent other) h = absurd h
script_text_is session name text (ReadFailed other) h = absurd h
script_text_is session name text (CubesTooLong found) h = absurd h
script_text_is session name text (Cubes fault) h = absurd h
script_text_is session name text (ScriptTooLong number found) h = absurd h
script_text_is session name text (Script number fault) h = (fault, ap (λ n. Script n fault) h.0, h.1)

module _ (known : TextsAreKnown) where
  -- a text is in order or refused
  text_state : (file : RunFile) (text : List ℕ) → IsTextOf file text ⊎ ((bad : BadFile) × IsRefusedText file text bad)
  text_state (CubesFile name) text = elim (known.cubes_either text) [ inl h ↦ inl h | inr f ↦ inr (Cubes f.0, f.1) ]
  text_state (ScriptFile session name) text = elim (known.script_either text) [ inl h ↦ inl h | inr f ↦ inr (Script session f.0, (refl, f.1)) ]

  size_state : (file : RunFile) (size : ℕ) → IsRefusedSize file size (too_large file size)
  size_state (CubesFile name) size = refl
  size_state (ScriptFile session name) size = (refl, refl)

  file_state : (file : RunFile) (reading : FileReading) → ReadsInOrder file reading ⊎ ((bad : BadFile) × IsBad file reading bad)
  file_state file Fails = inr (ReadFailed (file_name file), refl)
  file_state file (Gives missing) = inr (Absent (file_name file), refl)
  file_state file (Gives (too_long size)) = inr (too_large file size, size_state file size)
  file_state file (Gives (whole text)) = text_state file text

  -- a text in order is not refused, and it is refused in one way
  text_good : (file : RunFile) (text : List ℕ) (bad : BadFile) → IsTextOf file text → IsRefusedText file text bad → ⊥
  text_good (CubesFile name) text bad good h = let f = cubes_text_is name text bad h in known.cubes_good text good.0 f.0 good.1 f.2
  text_good (ScriptFile session name) text bad good h = let f = script_text_is session name text bad h in known.script_good text good.0 f.0 good.1 f.2

  text_one : (file : RunFile) (text : List ℕ) (a b : BadFile) → IsRefusedText file text a → IsRefusedText file text b → a ≡ b
  text_one (CubesFile name) text a b h k =
      let f = cubes_text_is name text a h in
      let g = cubes_text_is name text b k in
      f.1 ∙ ap Cubes (known.cubes_one text f.0 g.0 f.2 g.2) ∙ sym g.1
  text_one (ScriptFile session name) text a b h k =
      let f = script_text_is session name text a h in
      let g = script_text_is session name text b k in
      f.1 ∙ ap (Script session) (known.script_one text f.0 g.0 f.2 g.2) ∙ sym g.1

  file_good : (file : RunFile) (reading : FileReading) (bad : BadFile) → ReadsInOrder file reading → IsBad file reading bad → ⊥
  file_good file Fails bad good h = good
  file_good file (Gives missing) bad good h = good
  file_good file (Gives (too_long size)) bad good h = good
  file_good file (Gives (whole text)) bad good h = text_good file text bad good h

  file_one : (file : RunFile) (reading : FileReading) (a b : BadFile) → IsBad file reading a → IsBad file reading b → a ≡ b
  file_one file Fails a b h k = unread_is file a h ∙ sym (unread_is file b k)
  file_one file (Gives missing) a b h k = absent_is file a h ∙ sym (absent_is file b k)
  file_one file (Gives (too_long size)) a b h k = size_is file size a h ∙ sym (size_is file size b k)
  file_one file (Gives (whole text)) a b h k = text_one file text a b h k

  -- there is an end
  end_behind : (reading : RunFile → FileReading) (file : RunFile) (files : List RunFile) → ReadsInOrder file (reading file) → (end : Option BadFile) × FilesEnd reading files end → (end : Option BadFile) × FilesEnd reading (file ∷ files) end
  end_behind reading file files good (None, rest) = (None, (good, rest))
  end_behind reading file files good (Some bad, first) =
      (Some bad, record { before = file ∷ first.before; file = first.file; after = first.after; are = ap (λ fs. file ∷ fs) first.are; good = (good, first.good); is = first.is })

  pub some_end : (reading : RunFile → FileReading) (files : List RunFile) → (end : Option BadFile) × FilesEnd reading files end
  some_end reading [] = (None, tt)
  some_end reading (file ∷ files) =
      elim (file_state file (reading file)) [
        | inl good ↦ end_behind reading file files good (some_end reading files)
        | inr f ↦ (Some f.0, record { before = []; file = file; after = files; are = refl; good = tt; is = f.1 })
      ]

  -- there is one
  all_or_first : (reading : RunFile → FileReading) (files before : List RunFile) (file : RunFile) (after : List RunFile) (bad : BadFile) → files ≡ before ++ file ∷ after → AreInOrder reading files → IsBad file (reading file) bad → ⊥
  all_or_first reading [] [] file after bad e good h = absurd cc
  all_or_first reading [] (b ∷ before) file after bad e good h = absurd cc
  all_or_first reading (f ∷ files) [] file after bad e good h =
      let same : f ≡ file = cc in file_good file (reading file) bad (subst (λ g. ReadsInOrder g (reading g)) same good.0) h
  all_or_first reading (f ∷ files) (b ∷ before) file after bad e good h =
      let rest : files ≡ before ++ file ∷ after = cc in all_or_first reading files before file after bad rest good.1 h

  first_one : (reading : RunFile → FileReading) (before : List RunFile) (file : RunFile) (after others : List RunFile) (other : RunFile) (rest : List RunFile) (a b : BadFile)
      → before ++ file ∷ after ≡ others ++ other ∷ rest → AreInOrder reading before → AreInOrder reading others → IsBad file (reading file) a → IsBad other (reading other) b → a ≡ b
  first_one reading [] file after [] other rest a b e h k p q =
      let same : file ≡ other = cc in file_one file (reading file) a b p (subst (λ f. IsBad f (reading f) b) (sym same) q)
  first_one reading [] file after (o ∷ others) other rest a b e h k p q =
      let same : file ≡ o = cc in absurd (file_good file (reading file) a (subst (λ f. ReadsInOrder f (reading f)) (sym same) k.0) p)
  first_one reading (f ∷ before) file after [] other rest a b e h k p q =
      let same : f ≡ other = cc in absurd (file_good f (reading f) b h.0 (subst (λ g. IsBad g (reading g) b) (sym same) q))
  first_one reading (f ∷ before) file after (o ∷ others) other rest a b e h k p q =
      let same : before ++ file ∷ after ≡ others ++ other ∷ rest = cc in first_one reading before file after others other rest a b same h.1 k.1 p q

  pub one_end : (reading : RunFile → FileReading) (files : List RunFile) (a b : Option BadFile) → FilesEnd reading files a → FilesEnd reading files b → a ≡ b
  one_end reading files None None h k = refl
  one_end reading files None (Some bad) h k = absurd (all_or_first reading files k.before k.file k.after bad k.are h k.is)
  one_end reading files (Some bad) None h k = absurd (all_or_first reading files h.before h.file h.after bad h.are k h.is)
  one_end reading files (Some a) (Some b) h k = ap Some (first_one reading h.before h.file h.after k.before k.file k.after a b (sym h.are ∙ k.are) h.good k.good h.is k.is)
