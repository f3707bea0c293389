-- The text of replies.
-- Source: this project's own.
use Rattle.std.specs.Prelude.{ℕ, List, [], ◌∷◌, ◌++◌, length, codes, decimal, replicate, ◌-◌, if◌then◌else◌, Bool}
use Rattle.std.specs.Fmt.{signed_decimal}
use Rattle.std.specs.List.{flat_map}
use Rattle.cube_values.specs.declared.table.Field.{Field}
use Rattle.cube_values.specs.declared.table.Field.TheVariants.{Text, Whole, Decimal, Null}
use Rattle.cube_language.specs.Quotes.{quoted}
use Rattle.cube_journal.specs.declared.reply.Rejection.{Rejection}
use Rattle.cube_journal.specs.declared.reply.Reply.{Reply}
use Rattle.cube_journal.specs.declared.reply.Reply.TheVariants as reply
use Rattle.cube_journal.specs.JournalLines.{counters_text, epochs_text}
use Rattle.cube_journal.specs.Refusals.{bad_row_text, refusal_text}

-- Four digits.
abbrev pub four_digits : ℕ → List ℕ
four_digits n = replicate (4 - length (decimal n)) 48 ++ decimal n

abbrev pub sign_text : Bool → List ℕ
sign_text neg = if neg then codes "-" else []

-- A field of an answer.
abbrev pub field_text : Field → List ℕ
field_text (Text text) = quoted text
field_text (Whole n) = signed_decimal n
field_text (Decimal neg whole four) = sign_text neg ++ (decimal whole ++ (codes "." ++ four_digits four))
field_text Null = codes "NULL"

-- Fields with commas between them.
abbrev pub fields_text : List Field → List ℕ
fields_text [] = []
fields_text (f ∷ []) = field_text f
fields_text (f ∷ g ∷ fields) = field_text f ++ (codes "," ++ fields_text (g ∷ fields))

-- The lines of an answer.
abbrev pub table_text : List (List Field) → List ℕ
table_text table = flat_map (λ line. fields_text line ++ codes "\n") table

-- A record of a file that was not stored, on a line.
abbrev pub rejection_text : Rejection → List ℕ
rejection_text r = codes "reject " ++ (decimal r.number ++ (codes " " ++ (bad_row_text r.why ++ codes "\n")))

-- A word and an epoch, on a line.
abbrev pub at_epoch : List ℕ → ℕ → List ℕ
at_epoch words epoch = words ++ (codes " " ++ (decimal epoch ++ codes "\n"))

-- What a reply says.
abbrev pub reply_text : Reply → List ℕ
reply_text (reply.Rows epoch table) =
    codes "rows "
    ++ (decimal (length table) ++ (codes " epoch " ++ (decimal epoch ++ (codes "\n" ++ table_text table))))
reply_text (reply.Stored rows epoch) =
    codes "stored " ++ (decimal rows ++ (codes " epoch " ++ (decimal epoch ++ codes "\n")))
reply_text (reply.Loaded rows rejected list epoch) =
    codes "stored "
    ++ (decimal rows ++ (codes " rejected " ++ (decimal rejected ++ (codes " epoch "
    ++ (decimal epoch ++ (codes "\n" ++ flat_map rejection_text list))))))
reply_text (reply.Dropped epoch) = at_epoch (codes "dropped epoch") epoch
reply_text (reply.Begun epoch) = at_epoch (codes "begun") epoch
reply_text (reply.Committed epoch) = at_epoch (codes "committed") epoch
reply_text (reply.RolledBack epoch) = at_epoch (codes "rolled back") epoch
reply_text (reply.Flushed epoch) = at_epoch (codes "flushed") epoch
reply_text (reply.Purged epoch) = at_epoch (codes "purged") epoch
reply_text (reply.Epochs counters) =
    codes "epochs " ++ (counters_text counters ++ (codes " pending " ++ (epochs_text counters.pending ++ codes "\n")))
reply_text (reply.Created epoch) = at_epoch (codes "created epoch") epoch
reply_text (reply.Watching epoch table) =
    codes "watching "
    ++ (decimal (length table) ++ (codes " epoch " ++ (decimal epoch ++ (codes "\n" ++ table_text table))))
reply_text (reply.Refused refusal) = codes "refused " ++ (refusal_text refusal ++ codes "\n")

-- The reply to a statement of a session, after both numbers.
abbrev pub numbered : ℕ → ℕ → Reply → List ℕ
numbered session statement reply =
    decimal session ++ (codes "." ++ (decimal statement ++ (codes " " ++ reply_text reply)))
