-- Two files are read to what they stand for, and to nothing else.
use Rattle.std.proofs.Common.{◌≡◌, ℕ, ◌+◌, ◌-◌, ◌^◌, ◌<◌, ◌≤◌, ◌⊎◌, Bool, true, false, cond, List, [], ◌∷◌, ◌++◌, length, drop, Option, Some, None, Result, Ok, Err, inl, inr, refl, sym, ap, subst, ◌∙◌, append_assoc, arith}
use Rattle.std.specs.Prelude.{MatchResult, IfOk, IfSome}
use Rattle.std.proofs.lemmas.List.{drop_at, length-append}
use Rattle.cube_values.specs.declared.call_error.CallError.{CallError}
use Rattle.cube_values.specs.declared.call_error.CallError.TheVariants as errors
use Rattle.cube_language.specs.declared.decl.Decl.{Decl}
use Rattle.cube_language.specs.Cubes.{cubes_text}
use Rattle.cube_language.specs.CubesText.{Declares}
use Rattle.cube_schema.specs.Texts.{TextsDeclareOneList}
use Rattle.cube_rounds.specs.declared.round.Round.{Round}
use Rattle.cube_rounds.specs.Headers.{header_bytes, IsCanonical, FitsHeader, BeginsWithHeader}
use Rattle.cube_rounds.specs.Stands.{Kept, kept_of_cubes, kept_with_all, rounds_bytes, file_bytes, FileStands, IsClosed, IsOlder, IsCurrent, Stands}
use Rattle.round_fields.specs.Canonical.{TellsCubes}
use Rattle.round_fields.specs.Reading.{◌>>=◌, FailsRead, GivesRead}
use Rattle.round_fields.proofs.FieldLaws.{IsBytes, IsBytes-drop, bind_ok, ok_is}
use Rattle.round_fields.proofs.Told.{told_is_some}
use Rattle.round_reading.proofs.PayloadLaws.{no_names_dims}
use Rattle.round_text.specs.declared.header.Header.{Header}
use Rattle.round_text.specs.HeaderReading.{text_start, header_of, header_from}
use Rattle.round_text.proofs.HeaderLaws.{IsHeader, found_by, length-header}
use Rattle.store_reading.specs.declared.fault.PairFault.{PairFault}
use Rattle.store_reading.specs.declared.pair.StorePlace.{StorePlace}
use Rattle.store_reading.specs.declared.pair.OpenedPair.{OpenedPair}
use Rattle.store_reading.specs.Fronts.{header_or_closed, HasFrontHeader}
use Rattle.store_reading.specs.Rounds.{RoundsEnd, rounds_end, rounds_from, IsReadable}
use Rattle.store_reading.specs.Pairs.{CurrentHeader, current_of, PairContent, pair_content, place_at, content_at, cubes_told, content_from, file_of, pair_from, StandsAt}
use Rattle.store_reading.proofs.Currents.{front_of, IsBehind, IsNewer, current_was, first_again, second_again}
use Rattle.store_reading.proofs.FrontsRead.{front_again, front_closed, none_is_closed, front_was}
use Rattle.store_reading.proofs.RoundsRead.{TakesRounds, some_behind, rounds_take, rounds_again}

-- ---- a pair that was read

pub readable_cubes : (text : List ℕ) (cubes : List Decl) → Declares text cubes → IsReadable (kept_of_cubes cubes)
readable_cubes text cubes declares = record { storable = declares.storable; dims = no_names_dims cubes }

file_front : (digest : List ℕ → List ℕ) (told : List ℕ → Option (List Decl)) (second : Bool) (first other : List ℕ) (a b : Option Header)
    → header_or_closed digest told first ≡ Ok a → header_or_closed digest told other ≡ Ok b → header_or_closed digest told (file_of second first other) ≡ Ok (front_of second a b)
file_front digest told true first other a b x y = y
file_front digest told false first other a b x y = x

file_fits : (second : Bool) (first other : List ℕ) → IsBytes first → IsBytes other → IsBytes (file_of second first other)
file_fits true first other x y = y
file_fits false first other x y = x

-- The file of a header that was read.
header_at : (digest : List ℕ → List ℕ) (told : List ℕ → Option (List Decl)) → TellsCubes told → (file : List ℕ) → IsBytes file → (h : Header) → header_or_closed digest told file ≡ Ok (Some h) → IsHeader digest file h
header_at digest told tells file fits h e = found_by told tells digest file fits (Ok h) (front_was digest told file h e)

behind_is : (digest : List ℕ → List ℕ) (told : List ℕ → Option (List Decl)) → TellsCubes told → (generation : ℕ) (file : List ℕ) → IsBytes file → (o : Option Header) → header_or_closed digest told file ≡ Ok o
    → IsBehind generation o → IsClosed file ⊎ IsOlder digest generation file
behind_is digest told tells generation file fits None e behind = inl (none_is_closed digest told file e)
behind_is digest told tells generation file fits (Some h) e behind =
    inr (record { own = h.generation; less = behind; text = h.cubes; header = (header_at digest told tells file fits h e).begins })

-- How many bytes a header has.
header_size : (digest : List ℕ → List ℕ) → ((m : List ℕ) → length (digest m) ≡ 32) → (file : List ℕ) (h : Header) → IsHeader digest file h
    → h.size - 1 ≡ length (header_bytes digest h.generation h.cubes)
header_size digest wide file h is = omega (arith, is.size, length-header digest wide h.generation h.cubes)

stands_from : (digest : List ℕ → List ℕ) → ((m : List ℕ) → length (digest m) ≡ 32) → (told : List ℕ → Option (List Decl)) → TellsCubes told → TextsDeclareOneList
    → (c : CurrentHeader) (file other : List ℕ) → IsBytes file → header_or_closed digest told file ≡ Ok (Some c.1) → c.1.generation ≤ 2 ^ 61
    → (IsClosed other ⊎ IsOlder digest c.1.generation other) → (content : PairContent) → content_from digest told c file ≡ Ok content
    → StandsAt digest content file other × (content.place.second ≡ c.0)
stands_from digest wide told tells one_list c file other fits front most behind content e =
    let h = c.1 in
    let is = header_at digest told tells file fits h front in
    let begins = is.begins in
    let cubes = begins.fits.cubes in
    let canonical = begins.fits.canonical in
    let head = header_bytes digest h.generation h.cubes in
    let tail = begins.gate ∷ begins.rest in
    let told-is : cubes_told (told h.cubes) ≡ cubes = ap cubes_told (told_is_some one_list told tells h.cubes cubes canonical.declares canonical.canonical) in
    let begun = kept_of_cubes cubes in
    let behind-head : drop (h.size - 1) file ≡ tail = ap (drop (h.size - 1)) begins.whole ∙ drop_at head tail (h.size - 1) (sym (header_size digest wide file h is)) in
    let bytes = drop (h.size - 1) file in
    let n = length file in
    let a = bind_ok (rounds_from digest told n n (kept_of_cubes (cubes_told (told h.cubes))) bytes) (content_at c n) content e in
    let end = a.0 in
    let read : rounds_from digest told n n begun bytes ≡ Ok end = ap (λ (k : List Decl). rounds_from digest told n n (kept_of_cubes k) bytes) (sym told-is) ∙ a.1 in
    let long : length bytes ≡ 1 + length begins.rest = omega (arith, ap length behind-head) in
    let whole-long : n ≡ length head + length tail = ap length begins.whole ∙ length-append head tail in
    let taken = rounds_take digest wide told tells n n begun (readable_cubes h.cubes cubes canonical.declares) bytes (IsBytes-drop (h.size - 1) file fits)
    (omega (arith, long)) (omega (arith, long, whole-long)) end read in
    let rounds = rounds_bytes digest cubes taken.rounds in
    let text-is : h.cubes ≡ cubes_text cubes = canonical.canonical in
    let parts : file ≡ file_bytes digest h.generation cubes taken.rounds ++ end.left =
    begins.whole ∙ (λ i. header_bytes digest h.generation (text-is i) ++ (sym behind-head ∙ taken.parts) i)
    ∙ sym (append_assoc (header_bytes digest h.generation (cubes_text cubes)) rounds end.left) in
    let stands : FileStands digest h.generation end.kept file = record {
      cubes = cubes;
      declares = subst (λ (t : List ℕ). Declares t cubes) text-is canonical.declares;
      header = record {
        small = begins.fits.small;
        cubes = cubes;
        canonical = subst (λ (t : List ℕ). IsCanonical t cubes) text-is canonical;
        long = subst (λ (t : List ℕ). length t < 2 ^ 32) text-is begins.fits.long;
      };
      rounds = taken.rounds;
      chain = taken.chain;
      are = taken.are;
      gate = taken.ends.gate;
      rest = taken.ends.rest;
      shut = taken.ends.shut;
      whole = parts ∙ ap (λ (b : List ℕ). file_bytes digest h.generation cubes taken.rounds ++ b) taken.ends.whole;
    } in
    let place-end : n - length end.left ≡ length (file_bytes digest h.generation cubes taken.rounds) =
    omega (arith, ap length parts, length-append (file_bytes digest h.generation cubes taken.rounds) end.left) in
    let same : pair_content end.kept (place_at c n end.left) ≡ content = ok_is PairFault (pair_content end.kept (place_at c n end.left)) content a.2 in
    subst (λ (x : PairContent). StandsAt digest x file other × (x.place.second ≡ c.0)) same
    (record { stands = stands; end = place-end; most = most; behind = behind }, refl)

pub pair_takes : (digest : List ℕ → List ℕ) → ((m : List ℕ) → length (digest m) ≡ 32) → (told : List ℕ → Option (List Decl)) → TellsCubes told → TextsDeclareOneList
    → (first second : List ℕ) → IsBytes first → IsBytes second → (content : PairContent) → pair_from digest told first second ≡ Ok content
    → StandsAt digest content (file_of content.place.second first second) (file_of content.place.second second first)
pair_takes digest wide told tells one_list first second fits1 fits2 content e =
    let last : CurrentHeader → Result PairContent PairFault = λ c. content_from digest told c (file_of c.0 first second) in
    let middle : Option Header → Option Header → Result PairContent PairFault = λ a b. current_of a b >>= last in
    let start : Option Header → Result PairContent PairFault = λ a. header_or_closed digest told second >>= middle a in
    let x = bind_ok (header_or_closed digest told first) start content e in
    let y = bind_ok (header_or_closed digest told second) (middle x.0) content x.2 in
    let z = bind_ok (current_of x.0 y.0) last content y.2 in
    let c = z.0 in
    let newer = current_was x.0 y.0 c z.1 in
    let file = file_of c.0 first second in
    let other = file_of c.0 second first in
    let fits = file_fits c.0 first second fits1 fits2 in
    let front : header_or_closed digest told file ≡ Ok (Some c.1) = file_front digest told c.0 first second x.0 y.0 x.1 y.1 ∙ ap Ok newer.mine in
    let behind = behind_is digest told tells c.1.generation other (file_fits c.0 second first fits2 fits1) (front_of c.0 y.0 x.0) (file_front digest told c.0 second first y.0 x.0 y.1 x.1) newer.behind in
    let s = stands_from digest wide told tells one_list c file other fits front newer.most behind content z.2 in
    subst (λ (b : Bool). StandsAt digest content (file_of b first second) (file_of b second first)) (sym s.1) s.0

-- ---- a pair that stands

pub stands_begin : (digest : List ℕ → List ℕ) (generation : ℕ) (kept : Kept) (file : List ℕ) (s : FileStands digest generation kept file) → BeginsWithHeader digest generation (cubes_text s.cubes) file
stands_begin digest generation kept file s =
    let head = header_bytes digest generation (cubes_text s.cubes) in
    let first = some_behind digest s.cubes s.rounds s.gate s.rest in
    record {
      fits = s.header;
      gate = first.0;
      rest = first.1;
      whole = s.whole ∙ append_assoc head (rounds_bytes digest s.cubes s.rounds) (s.gate ∷ s.rest) ∙ ap (λ (b : List ℕ). head ++ b) first.2;
    }

behind_front : (digest : List ℕ → List ℕ) → ((m : List ℕ) → length (digest m) ≡ 32) → (told : List ℕ → Option (List Decl)) → TellsCubes told → (generation : ℕ) (file : List ℕ)
    → (IsClosed file ⊎ IsOlder digest generation file) → (o : Option Header) × (header_or_closed digest told file ≡ Ok o) × IsBehind generation o
behind_front digest wide told tells generation file (inl closed) = (None, front_closed digest told file closed, tt)
behind_front digest wide told tells generation file (inr older) =
    (Some (header_of (text_start older.own) older.own older.text), front_again digest wide told tells older.own older.text file older.header, older.less)

-- The content of a file that stands.
content_again : (digest : List ℕ → List ℕ) → ((m : List ℕ) → length (digest m) ≡ 32) → (told : List ℕ → Option (List Decl)) → TellsCubes told → TextsDeclareOneList
    → (second : Bool) (generation : ℕ) (kept : Kept) (file : List ℕ) → IsBytes file → length file < 2 ^ 64 → (s : FileStands digest generation kept file)
    → (place : StorePlace) × (content_from digest told (second, header_of (text_start generation) generation (cubes_text s.cubes)) file ≡ Ok (pair_content kept place))
content_again digest wide told tells one_list second generation kept file fits short s =
    let text = cubes_text s.cubes in
    let h = header_of (text_start generation) generation text in
    let c : CurrentHeader = (second, h) in
    let head = header_bytes digest generation text in
    let tail = s.gate ∷ s.rest in
    let bytes = rounds_bytes digest s.cubes s.rounds ++ tail in
    let n = length file in
    let told-is : cubes_told (told text) ≡ s.cubes = ap cubes_told (told_is_some one_list told tells text s.cubes s.declares refl) in
    let whole : file ≡ head ++ bytes = s.whole ∙ append_assoc head (rounds_bytes digest s.cubes s.rounds) tail in
    let size : length head ≡ h.size - 1 = omega (arith, length-header digest wide generation text) in
    let behind : drop (h.size - 1) file ≡ bytes = ap (drop (h.size - 1)) whole ∙ drop_at head bytes (h.size - 1) size in
    let long : n ≡ length head + length bytes = ap length whole ∙ length-append head bytes in
    let read = rounds_again digest wide told tells one_list n n (kept_of_cubes s.cubes) (readable_cubes text s.cubes s.declares) s.rounds s.gate s.rest s.chain s.shut
    (subst IsBytes behind (IsBytes-drop (h.size - 1) file fits)) (omega (arith, long, short)) (omega (arith, long)) in
    let place = place_at c n tail in (
      place,
      ap (λ (k : List Decl). rounds_from digest told n n (kept_of_cubes k) (drop (h.size - 1) file) >>= content_at c n) told-is
          ∙ ap (λ (b : List ℕ). rounds_from digest told n n (kept_of_cubes s.cubes) b >>= content_at c n) behind
          ∙ ap (λ (r : Result RoundsEnd PairFault). r >>= content_at c n) read
          ∙ ap (λ (k : Kept). content k place) (sym s.are),
    )
  where
    content : Kept → StorePlace → Result PairContent PairFault
    content k place = Ok (pair_content k place)

-- What reading two files gives that stand for what is kept.
pub record IsReadAs (digest : List ℕ → List ℕ) (told : List ℕ → Option (List Decl)) (kept : Kept) (first second : List ℕ) : Type 0 where
  pub place : StorePlace
  pub read : pair_from digest told first second ≡ Ok (pair_content kept place)

pub pair_again : (digest : List ℕ → List ℕ) → ((m : List ℕ) → length (digest m) ≡ 32) → (told : List ℕ → Option (List Decl)) → TellsCubes told → TextsDeclareOneList
    → (kept : Kept) (first second : List ℕ) → IsBytes first → IsBytes second → length first < 2 ^ 64 → length second < 2 ^ 64 → Stands digest kept first second → IsReadAs digest told kept first second
pair_again digest wide told tells one_list kept first second fits1 fits2 short1 short2 (inl current) =
    let s = current.stands in
    let h = header_of (text_start current.generation) current.generation (cubes_text s.cubes) in
    let front = front_again digest wide told tells current.generation (cubes_text s.cubes) first (stands_begin digest current.generation kept first s) in
    let behind = behind_front digest wide told tells current.generation second current.behind in
    let content = content_again digest wide told tells one_list false current.generation kept first fits1 short1 s in
    let last : CurrentHeader → Result PairContent PairFault = λ c. content_from digest told c (file_of c.0 first second) in
    record {
      place = content.0;
      read = ap (λ (r : Result (Option Header) PairFault). r >>= λ a. header_or_closed digest told second >>= λ b. current_of a b >>= last) front
          ∙ ap (λ (r : Result (Option Header) PairFault). r >>= λ b. current_of (Some h) b >>= last) behind.1
          ∙ ap (λ (r : Result CurrentHeader PairFault). r >>= last) (first_again h behind.0 current.most behind.2)
          ∙ content.1;
    }
pair_again digest wide told tells one_list kept first second fits1 fits2 short1 short2 (inr current) =
    let s = current.stands in
    let h = header_of (text_start current.generation) current.generation (cubes_text s.cubes) in
    let front = front_again digest wide told tells current.generation (cubes_text s.cubes) second (stands_begin digest current.generation kept second s) in
    let behind = behind_front digest wide told tells current.generation first current.behind in
    let content = content_again digest wide told tells one_list true current.generation kept second fits2 short2 s in
    let last : CurrentHeader → Result PairContent PairFault = λ c. content_from digest told c (file_of c.0 first second) in
    record {
      place = content.0;
      read = ap (λ (r : Result (Option Header) PairFault). r >>= λ a. header_or_closed digest told second >>= λ b. current_of a b >>= last) behind.1
          ∙ ap (λ (r : Result (Option Header) PairFault). r >>= λ b. current_of behind.0 b >>= last) front
          ∙ ap (λ (r : Result CurrentHeader PairFault). r >>= last) (second_again behind.0 h current.most behind.2)
          ∙ content.1;
    }

-- ---- what a call answers

abbrev right_content : PairContent → Result PairContent PairFault
right_content c = Ok c

pub only_error : (e : CallError PairFault) (c : PairContent) → FailsRead e (right_content c) → e ≡ errors.NoMemory
only_error errors.NoMemory c given = refl
only_error (errors.Fault f) c given = absurd cc

begins_of : (digest : List ℕ → List ℕ) (second : Bool) (a b : Option Header) (first other : List ℕ) → IfSome a (HasFrontHeader digest first) → IfSome b (HasFrontHeader digest other)
    → IfSome (front_of second a b) (HasFrontHeader digest (file_of second first other))
begins_of digest true a b first other x y = y
begins_of digest false a b first other x y = x

-- The current header stands in its file.
pub current_begins : (digest : List ℕ → List ℕ) (a b : Option Header) (c : CurrentHeader) (first other : List ℕ) → current_of a b ≡ Ok c → IfSome a (HasFrontHeader digest first)
    → IfSome b (HasFrontHeader digest other) → HasFrontHeader digest (file_of c.0 first other) c.1
current_begins digest a b c first other e x y =
    let newer = current_was a b c e in
    subst (λ (o : Option Header). IfSome o (HasFrontHeader digest (file_of c.0 first other))) newer.mine (begins_of digest c.0 a b first other x y)

-- The content of a pair that was opened.
abbrev pub content_of : OpenedPair → PairContent
content_of o = pair_content o.kept o.place

pub found_of : (digest : List ℕ → List ℕ) → ((m : List ℕ) → length (digest m) ≡ 32) → (told : List ℕ → Option (List Decl)) → TellsCubes told → TextsDeclareOneList
    → (first second : List ℕ) → IsBytes first → IsBytes second → (r : Result OpenedPair (CallError PairFault)) → GivesRead content_of r (pair_from digest told first second)
    → IfOk r (λ o. StandsAt digest (content_of o) (file_of o.place.second first second) (file_of o.place.second second first))
found_of digest wide told tells one_list first second fits1 fits2 (Ok o) given = pair_takes digest wide told tells one_list first second fits1 fits2 (content_of o) given
found_of digest wide told tells one_list first second fits1 fits2 (Err e) given = tt

pub only_of : (kept : Kept) (place : StorePlace) (r : Result OpenedPair (CallError PairFault)) → GivesRead content_of r (right_content (pair_content kept place))
    → MatchResult r (λ o. o.kept ≡ kept) (λ e. e ≡ errors.NoMemory)
only_of kept place (Ok o) given = ap (λ (x : PairContent). x.kept) (sym (ok_is PairFault (pair_content kept place) (content_of o) given))
only_of kept place (Err e) given = only_error e (pair_content kept place) given

pub only_by : (digest : List ℕ → List ℕ) → ((m : List ℕ) → length (digest m) ≡ 32) → (told : List ℕ → Option (List Decl)) → TellsCubes told → TextsDeclareOneList
    → (kept : Kept) (first second : List ℕ) → IsBytes first → IsBytes second → length first < 2 ^ 64 → length second < 2 ^ 64 → Stands digest kept first second
    → (r : Result OpenedPair (CallError PairFault)) → GivesRead content_of r (pair_from digest told first second) → MatchResult r (λ o. o.kept ≡ kept) (λ e. e ≡ errors.NoMemory)
only_by digest wide told tells one_list kept first second fits1 fits2 short1 short2 stands r given =
    let again = pair_again digest wide told tells one_list kept first second fits1 fits2 short1 short2 stands in
    only_of kept again.place r (subst (λ (x : Result PairContent PairFault). GivesRead content_of r x) again.read given)

-- ---- the content of the current file, part by part

pub content_by : (digest : List ℕ → List ℕ) (told : List ℕ → Option (List Decl)) (c : CurrentHeader) (file : List ℕ) (cubes : List Decl) (begun kept : Kept) (bytes left : List ℕ)
    → told c.1.cubes ≡ Some cubes → begun ≡ kept_of_cubes cubes → bytes ≡ drop (c.1.size - 1) file
    → rounds_from digest told (length file) (length file) begun bytes ≡ Ok (rounds_end kept left)
    → content_from digest told c file ≡ Ok (pair_content kept (place_at c (length file) left))
content_by digest told c file cubes begun kept bytes left told-is begun-is bytes-are read =
    let n = length file in
    ap (λ (o : Option (List Decl)). rounds_from digest told n n (kept_of_cubes (cubes_told o)) (drop (c.1.size - 1) file) >>= content_at c n) told-is
    ∙ (λ i. rounds_from digest told n n (sym begun-is i) (sym bytes-are i) >>= content_at c n)
    ∙ ap (λ (r : Result RoundsEnd PairFault). r >>= content_at c n) read

pub content_fails : (digest : List ℕ → List ℕ) (told : List ℕ → Option (List Decl)) (c : CurrentHeader) (file : List ℕ) (cubes : List Decl) (begun : Kept) (bytes : List ℕ) (e : CallError PairFault)
    → told c.1.cubes ≡ Some cubes → begun ≡ kept_of_cubes cubes → bytes ≡ drop (c.1.size - 1) file
    → FailsRead e (rounds_from digest told (length file) (length file) begun bytes) → FailsRead e (content_from digest told c file)
content_fails digest told c file cubes begun bytes errors.NoMemory told-is begun-is bytes-are fails = tt
content_fails digest told c file cubes begun bytes (errors.Fault f) told-is begun-is bytes-are fails =
    let n = length file in
    ap (λ (o : Option (List Decl)). rounds_from digest told n n (kept_of_cubes (cubes_told o)) (drop (c.1.size - 1) file) >>= content_at c n) told-is
    ∙ (λ i. rounds_from digest told n n (sym begun-is i) (sym bytes-are i) >>= content_at c n)
    ∙ ap (λ (r : Result RoundsEnd PairFault). r >>= content_at c n) fails
