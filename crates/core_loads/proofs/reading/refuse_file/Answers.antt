use Rattle.std.proofs.Common.{Err, ap}
use Rattle.core_loads.specs.LoadEnds.{absent, too_long}
use Rattle.cube_values.specs.declared.call_error.CallError.TheVariants.{Fault}
use Rattle.loaded_files.specs.LoadedFiles.{ShowsLoad, loaded_file}
use Rattle.core_loads.proofs.reading.refuse_file.Goals as goal

pub returns-in-Absent-clause-answered : goal.returns-in-Absent-clause-answered
returns-in-Absent-clause-answered g c = λ first given shown nothing.
    c.refuse_load.ensures.answered first (loaded_file given) c.args.place c.args.cube.now
    (absent (ap loaded_file (coe 0 1 (i. ShowsLoad c.args.cube.now given (Err (Fault (c.in-Absent.is i)))) shown)))
    nothing

pub returns-in-TooLong-clause-answered : goal.returns-in-TooLong-clause-answered
returns-in-TooLong-clause-answered g c = λ first given shown nothing.
    c.refuse_load-in-TooLong.ensures.answered first (loaded_file given) c.args.place c.args.cube.now
    (too_long c.in-TooLong.bytes
    (ap loaded_file (coe 0 1 (i. ShowsLoad c.args.cube.now given (Err (Fault (c.in-TooLong.is i)))) shown)))
    nothing

pub returns-in-Failed-clause-answered : goal.returns-in-Failed-clause-answered
returns-in-Failed-clause-answered g c = λ first given shown nothing.
    c.refuse_unread.ensures.answered first (loaded_file given) nothing
