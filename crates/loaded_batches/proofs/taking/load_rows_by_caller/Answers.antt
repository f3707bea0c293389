use Rattle.std.proofs.Common.{◌≡◌, ℕ, IfOk, ap, ◌∙◌}
use borrow.Author.Rules.{rules}
use Rattle.core_names.specs.CoreEncoders.{MayAskForCodes}
use Rattle.core_names.specs.KnownNumbers.{TextsByDim}
use Rattle.core_names.specs.NamesInTheEnd.{MayLeaveNames}
use Rattle.row_encoding.specs.CodedLoads.{TakesBatch}
use Rattle.row_encoding.specs.FinalCodes.{InTheEnd}
use Rattle.loaded_batches.proofs.taking.load_rows_by_caller.Goals as goal

-- What holds of three values holds of those that they are.
all-moved : {A B C : Type 0} (P : A → B → C → Type 0) {a x : A} {b y : B} {n m : C} → a ≡ x → b ≡ y → n ≡ m
    → P a b n → P x y m
all-moved P e f h k = coe 0 1 (i. P (e i) (f i) (h i)) k

pub returns-clause-may : goal.returns-clause-may
returns-clause-may g c =
    let grow = c.load_rows.ensures.grow in
    let stays = grow.keeps_else.stays in
    let its_caller = ap (λ w. w.caller) stays ∙ c.new-names.ensures.same_caller in
    let its_known = ap (λ w. w.known) stays ∙ c.new-names.ensures.same_known in
    all-moved (λ (p : g.row.P.Denot) (k : TextsByDim) (s : ℕ).
    MayAskForCodes g.S.LinkedShard.fits g.S.LinkedShard.stands g.S.LinkedShard.says (g.P.CellCaller.opening p)
    (g.P.CellCaller.number p) (g.P.CellCaller.own p) s k c.args.place c.args.cube.now)
    (search (rules, its_caller)) (search (rules, its_known)) (ap (λ w. w.session) stays ∙ c.new-names.ensures.session)
    grow.here.may

one-moved : {A : Type 0} (P : A → Type 0) {a x : A} → a ≡ x → P a → P x
one-moved P e k = coe 0 1 (i. P (e i)) k

pub returns-clause-batch : goal.returns-clause-batch
returns-clause-batch g c =
    let its_caller = ap (λ w. w.caller) c.load_rows.ensures.grow.keeps_else.stays ∙ c.new-names.ensures.same_caller in
    one-moved (λ (p : g.row.P.Denot). IfOk c.load_rows.result (λ ended. InTheEnd
    (MayLeaveNames g.S.LinkedShard.fits g.S.LinkedShard.stands g.S.LinkedShard.says (g.P.CellCaller.opening p)
    (g.P.CellCaller.number p) (g.P.CellCaller.own p)) c.args.place (λ lists.
    TakesBatch c.args.cube.now lists c.args.allowed c.args.load.now c.load_rows.new.load c.args.bad.now
    c.load_rows.new.bad c.load_rows.new.batch.rows ended))) (search (rules, its_caller)) c.load_rows.ensures.batch
