-- Which replies speak of the file of a LOAD.
-- Source: this project's own.
use Rattle.cube_journal.specs.declared.refusal.Refusal.TheVariants as refusal
use Rattle.cube_journal.specs.declared.reply.Reply.{Reply}
use Rattle.cube_journal.specs.declared.reply.Reply.TheVariants as reply

-- A reply tells of no records of a file, and of no file that is not there, is too long or cannot be read.
abbrev pub SpeaksOfNoFile : Reply → Type 0
SpeaksOfNoFile (reply.Loaded rows rejected first epoch) = ⊥
SpeaksOfNoFile (reply.Refused refusal.NoSuchFile) = ⊥
SpeaksOfNoFile (reply.Refused (refusal.FileTooLong size)) = ⊥
SpeaksOfNoFile (reply.Refused (refusal.TooManyRejected rejected allowed)) = ⊥
SpeaksOfNoFile (reply.Refused refusal.ReadFault) = ⊥
SpeaksOfNoFile said = Unit {0}

-- A statement is refused, and that speaks of no file.
abbrev pub IsRefusedUnread : Reply → Type 0
IsRefusedUnread (reply.Refused because) = SpeaksOfNoFile (reply.Refused because)
IsRefusedUnread said = ⊥
