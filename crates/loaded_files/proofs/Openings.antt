-- What the answer to reading a file says of its load.
use Rattle.std.proofs.Common.{◌≡◌, ℕ, List, Option, Some, Result, Ok, Err, Vec, sym, subst, ap, ◌∙◌, map}
use Rattle.std.specs.declared.alloc.Global.{Global}
use Rattle.cube_values.specs.declared.call_error.CallError.{CallError}
use Rattle.cube_values.specs.declared.call_error.CallError.TheVariants.{Fault, NoMemory}
use Rattle.cube_language.specs.declared.decl.Decl.{Decl}
use Rattle.csv_load.specs.Loads.{LoadState}
use Rattle.outside.specs.Given.{Given, ReadsWhole, ShowsGiven, whole, missing}
use Rattle.outside.specs.ShelfCalls.{ShelfCall, AnswersBy, GivesBy, WhereKnown}
use Rattle.outside.specs.declared.reading.FileFault.{FileFault}
use Rattle.outside.specs.declared.reading.FileFault.TheVariants.{Absent, TooLong, Failed}
use Rattle.loaded_files.specs.LoadedFiles.{LoadAnswer, LoadCalls, ShowsLoad, OpensLoad, BeginsOrWants}
use Rattle.loaded_files.specs.declared.reading.TheConstants.{LOADED_BYTES}

-- no load began
fault_shown : (d : Decl) (given : Given) (e : CallError FileFault) → ShowsGiven (Err e) given → ShowsLoad d given (Err e)
fault_shown d given (Fault Absent) h = h
fault_shown d given (Fault (TooLong size)) h = h
fault_shown d given (Fault Failed) h = h
fault_shown d given NoMemory h = h

fault_calls : (path : List ℕ) (given : Given) (e : CallError FileFault) (past now : List ShelfCall) → ShowsGiven (Err e) given → AnswersBy path LOADED_BYTES past now (Err e) → LoadCalls path given (Err e) past now
fault_calls path given (Fault Absent) past now h calls = subst (GivesBy path LOADED_BYTES past now) (sym h) calls
fault_calls path given (Fault (TooLong size)) past now h calls = subst (GivesBy path LOADED_BYTES past now) (sym h) calls
fault_calls path given (Fault Failed) past now h calls = calls
fault_calls path given NoMemory past now h calls = tt

pub opens_not : (told : Option (List (List ℕ × List ℕ))) (before after : Option (List ShelfCall)) (path : List ℕ) (d : Decl) (e : CallError FileFault) → ReadsWhole told path LOADED_BYTES (Err e) → WhereKnown (λ past now. AnswersBy path LOADED_BYTES past now (Err e)) before after → OpensLoad told before after path d (Err e)
opens_not told before after path d e reads calls = record {
  given = reads.given;
  within = reads.within;
  by_files = reads.by_files;
  by_calls = λ past known. let c = calls past known in (c.0, c.1, fault_calls path reads.given e past c.0 reads.shown c.2);
  shown = fault_shown d reads.given e reads.shown;
}

-- the load of the bytes that were read
load_shown : (d : Decl) (given : Given) (bytes : List ℕ) (answer : LoadAnswer) → given ≡ whole bytes → BeginsOrWants d bytes answer → ShowsLoad d given answer
load_shown d given bytes (Ok load) h begins = (bytes, h, begins)
load_shown d given bytes (Err e) h none = subst (λ (w : CallError FileFault). ShowsLoad d given (Err w)) (sym none) tt

load_calls : (path : List ℕ) (d : Decl) (given : Given) (bytes : List ℕ) (answer : LoadAnswer) (past now : List ShelfCall) → given ≡ whole bytes → BeginsOrWants d bytes answer → GivesBy path LOADED_BYTES past now (whole bytes) → LoadCalls path given answer past now
load_calls path d given bytes (Ok load) past now h begins calls = subst (GivesBy path LOADED_BYTES past now) (sym h) calls
load_calls path d given bytes (Err e) past now h none calls = subst (λ (w : CallError FileFault). LoadCalls path given (Err w) past now) (sym none) tt

pub opens : (told : Option (List (List ℕ × List ℕ))) (before after : Option (List ShelfCall)) (path : List ℕ) (d : Decl) (bytes : Vec ℕ Global) (answer : LoadAnswer) → ReadsWhole told path LOADED_BYTES (Ok bytes) → WhereKnown (λ past now. AnswersBy path LOADED_BYTES past now (Ok bytes)) before after → BeginsOrWants d bytes.items answer → OpensLoad told before after path d answer
opens told before after path d bytes answer reads calls begins = record {
  given = reads.given;
  within = reads.within;
  by_files = reads.by_files;
  by_calls = λ past known. let c = calls past known in (c.0, c.1, load_calls path d reads.given bytes.items answer past c.0 reads.shown begins c.2);
  shown = load_shown d reads.given bytes.items answer reads.shown begins;
}
