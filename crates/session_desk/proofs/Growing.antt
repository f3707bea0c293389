-- A statement that makes no cube and changes no rows is executed where its entries say so.
use Rattle.std.proofs.Common.{◌≡◌, ◌∙◌, ℕ, ◌+◌, ◌-◌, ◌≤◌, true, List, [], ◌∷◌, ◌++◌, length, slice_get, Option, Some, None, refl, sym, ap, subst, arith, append_assoc, append-nil}
use Rattle.std.specs.Prelude.{unwrap_or}
use Rattle.std.specs.List.{filter_map, list_all}
use Rattle.std.proofs.lemmas.Bool.{and_from, and_parts}
use Rattle.std.proofs.lemmas.List.{take_all}
use Rattle.std.proofs.lemmas.List.Elements.{filter_map-append}
use Rattle.cube_language.specs.declared.decl.Decl.{Decl}
use Rattle.cube_journal.specs.declared.journal_entry.JournalEntry.{JournalEntry}
use Rattle.cube_journal.specs.declared.reply.Reply.{Reply}
use Rattle.cube_run.specs.FinalNames.{names_at}
use Rattle.cube_run.specs.RunRecords.{Catalog, LoadedFile, RunRecord, Sentence, catalog_of, made_by, script_of}
use Rattle.cube_run.specs.RunText.{IsReply}
use Rattle.cube_run.specs.RunTransactions.{DoneOperation, operation_done}
use Rattle.cube_run.specs.SessionStates.{session_after}
use Rattle.cube_run.specs.SessionSteps.{session_part}
use Rattle.played_scripts.specs.PlayedRuns.{AreNumbered}
use Rattle.one_session.specs.Behind.{HaveDone, cubes_behind, last_step, run_so_far}
use Rattle.one_session.specs.Changes.{EpochsNeverFall}
use Rattle.one_session.specs.Pasts.{Beginning, GoesOn, IsOneMore, SessionPast, has_one_owner, last_number}
use Rattle.one_session.proofs.Backwards.{goes_on_before}
use Rattle.one_session.proofs.CubesBehind.{cubes_behind_more}
use Rattle.one_session.proofs.Entries.{longer_by_one}
use Rattle.one_session.proofs.InOrder.{order_kept}
use Rattle.one_session.proofs.Steps.{executed, no_change_more, there}
use Rattle.aosi_desk.specs.State.{state_of}
use Rattle.aosi_desk.specs.Desks.{DeskState}
use Rattle.session_replies.specs.Modes.{mode_of}
use Rattle.session_desk.specs.declared.session.Session.{Session}
use Rattle.session_desk.specs.AtDesk.{change_epoch, desk_with_entries}
use Rattle.session_desk.specs.CubesBefore.{AgreeWithCubes}
use Rattle.session_desk.specs.Executed.{ExecutesAtDesk}
use Rattle.session_desk.specs.Standing.{StandsBehind, World, session_state}
use Rattle.session_desk.proofs.Agreeing.{AgreeFor, agree_then}

-- What is behind the session, with one statement more that has no file and changes no dictionary.
abbrev pub grown : SessionPast → Sentence → List JournalEntry → SessionPast
grown past sentence added = record {
  sentences = past.sentences ++ sentence ∷ [];
  files = past.files;
  journal = past.journal ++ added;
  names = past.names;
}

abbrev pub world_of : DeskState → List (List (List (List ℕ))) → Session → List DoneOperation → World
world_of desk names session done = record { desk = desk; names = names; session = session; done = done }

-- What the desk and the session have more after a statement, which made these cubes.
pub record GrowWith (sentence : Sentence) (added : List JournalEntry) (made : List Decl) (desk : DeskState)
    (session : Session) (new_desk : DeskState) (now : Session) : Type 0 where
  pub safe : new_desk.register.safe ≡ desk.register.safe
  pub journal : new_desk.register.journal ≡ desk.register.journal ++ added
  pub cubes : new_desk.cubes ≡ desk.cubes ++ made
  pub statements : now.statements ≡ session.statements + 1
  pub every : now.round_every ≡ session.round_every
  pub becomes : session_state now ≡ session_after (session_state session) sentence (session_part 1 added)
  pub own : AreNumbered now.statements now.statements (session_part 1 added)
  pub owners : list_all has_one_owner added ≡ true
  pub makes : (run : RunRecord) → slice_get (script_of run 1) (now.statements - 1) ≡ Some sentence
      → filter_map (made_by run) added ≡ made
  pub agrees : AgreeFor sentence now.statements desk.cubes added new_desk.cubes
  pub epochs : change_epoch (state_of desk.register) (mode_of session.mode)
      ≤ change_epoch (state_of new_desk.register) (mode_of now.mode)
  pub no_change : (catalog : Catalog) (number : ℕ) (file : LoadedFile)
      → operation_done catalog (record {
        session = 1;
        number = number;
        sentence = sentence;
        file = file;
        state = session_state session;
        entries = session_part 1 added;
      }) ≡ None

-- The same of a statement that makes no cube.
pub record Grow (sentence : Sentence) (added : List JournalEntry) (desk : DeskState) (session : Session)
    (new_desk : DeskState) (now : Session) : Type 0 where
  pub desk_is : new_desk ≡ desk_with_entries desk added
  pub statements : now.statements ≡ session.statements + 1
  pub every : now.round_every ≡ session.round_every
  pub becomes : session_state now ≡ session_after (session_state session) sentence (session_part 1 added)
  pub own : AreNumbered now.statements now.statements (session_part 1 added)
  pub owners : list_all has_one_owner added ≡ true
  pub no_cube : (run : RunRecord) → filter_map (made_by run) added ≡ []
  pub agrees : AgreeFor sentence now.statements desk.cubes added desk.cubes
  pub epochs : change_epoch (state_of desk.register) (mode_of session.mode)
      ≤ change_epoch (state_of new_desk.register) (mode_of now.mode)
  pub no_change : (catalog : Catalog) (number : ℕ) (file : LoadedFile)
      → operation_done catalog (record {
        session = 1;
        number = number;
        sentence = sentence;
        file = file;
        state = session_state session;
        entries = session_part 1 added;
      }) ≡ None

-- The statement is answered so in each run that goes on.
abbrev pub Answers : Sentence → List JournalEntry → DeskState → Session → Reply → Type 0
Answers sentence added desk session said =
    (beginning : Beginning) (past : SessionPast) (names : List (List (List (List ℕ)))) (done : List DoneOperation)
    (run : RunRecord) → StandsBehind beginning past (world_of desk names session done)
    → IsOneMore past (grown past sentence added) sentence added
    → GoesOn beginning (grown past sentence added) run
    → IsReply run (last_step (grown past sentence added) (session_state session) sentence added) said

pub never_fall_more : (low high more : ℕ) (done : List DoneOperation) → high ≤ more → EpochsNeverFall low done high
    → EpochsNeverFall low done more
never_fall_more low high more [] l h = omega (arith, l, h)
never_fall_more low high more (o ∷ done) l h = (h.0, never_fall_more o.epoch high more done l h.1)

pub all_more : (front back : List JournalEntry) → list_all has_one_owner front ≡ true
    → list_all has_one_owner back ≡ true → list_all has_one_owner (front ++ back) ≡ true
all_more [] back a b = b
all_more (e ∷ front) back a b =
    let parts = and_parts (has_one_owner e) (list_all has_one_owner front) a in
    and_from (has_one_owner e) (list_all has_one_owner (front ++ back)) parts.0 (all_more front back parts.1 b)

one_more : (past : SessionPast) (sentence : Sentence) (added : List JournalEntry) (session now : Session)
    → last_number past ≡ session.statements → now.statements ≡ session.statements + 1
    → AreNumbered now.statements now.statements (session_part 1 added)
    → IsOneMore past (grown past sentence added) sentence added
one_more past sentence added session now number statements own = record {
  sentences = refl;
  files = λ number l. refl;
  journal = refl;
  own =
      let is : now.statements ≡ last_number past + 1 = omega (arith, number, statements) in
      subst (λ (n : ℕ). AreNumbered n n (session_part 1 added)) is own;
  names = λ cube place. take_all (length (names_at past.names cube place)) (names_at past.names cube place) (omega arith);
}

pub executes_with : (sentence : Sentence) (added : List JournalEntry) (made : List Decl) (desk : DeskState)
    (session : Session) (new_desk : DeskState) (now : Session) (said : Reply)
    → GrowWith sentence added made desk session new_desk now
    → Answers sentence added desk session said → ExecutesAtDesk sentence desk session new_desk now said
executes_with sentence added made desk session new_desk now said g answers = λ beginning past names done h.
    let after = grown past sentence added in
    let state = session_state session in
    let more = one_more past sentence added session now h.number g.statements g.own in
    let said_so = (λ (run : RunRecord) (on : GoesOn beginning after run).
    answers beginning past names done run h more on) in
    let stands = (executed beginning past after state sentence added said h.done.turn more said_so).stands in
    let no_change = no_change_more beginning past after done state sentence added h.done more
    (λ run on. g.no_change (catalog_of run) (last_number after) (after.files (last_number after))) in
    let order = order_kept past after sentence added done
    (change_epoch (state_of desk.register) (mode_of session.mode)) more h.order in
    let number : last_number past + 1 - 1 ≡ now.statements - 1 =
    let a = h.number in let b = g.statements in omega (arith, a, b)
    in
    let place : now.statements - 1 ≡ last_number past = let a = h.number in let b = g.statements in omega (arith, a, b) in
    record {
      after = after;
      added = added;
      more = more;
      becomes = g.becomes;
      answers = said_so;
      stands = record {
        safe = g.safe ∙ h.safe;
        journal = g.journal ∙ ap (λ (es : List JournalEntry). es ++ added) h.journal;
        there =
            cubes_behind_more beginning past after sentence added h.done.turn h.owned more
            ∙ ap (λ (cubes : List Decl). cubes ++ filter_map (made_by (run_so_far beginning after)) added) h.there
            ∙ ap (λ (cubes : List Decl). desk.cubes ++ cubes)
            (g.makes (run_so_far beginning after)
            (ap (slice_get after.sentences) place ∙ there past.sentences sentence []))
            ∙ sym g.cubes;
        cubes = λ run on.
            ap (λ (cubes : List Decl). run.cubes ++ cubes) (filter_map-append (made_by run) past.journal added)
            ∙ sym (append_assoc run.cubes (filter_map (made_by run) past.journal) (filter_map (made_by run) added))
            ∙ ap (λ (cubes : List Decl). cubes ++ filter_map (made_by run) added)
            (h.cubes run (goes_on_before beginning past after sentence added run more on))
            ∙ ap (λ (cubes : List Decl). desk.cubes ++ cubes)
            (g.makes run (ap (slice_get (script_of run 1)) (sym number) ∙ stands run on))
            ∙ sym g.cubes;
        agrees = λ run on.
            agree_then run run.cubes desk.cubes new_desk.cubes past.journal added
            (h.agrees run (goes_on_before beginning past after sentence added run more on))
            (g.agrees run (ap (slice_get (script_of run 1)) (sym number) ∙ stands run on));
        names = h.names;
        number =
            longer_by_one past after sentence added more
            ∙ ap (λ (n : ℕ). n + 1) h.number
            ∙ sym g.statements;
        every = h.every ∙ ap (λ (o : Option ℕ). unwrap_or o 0) (sym g.every);
        owned = all_more past.journal added h.owned g.owners;
        done = subst (HaveDone beginning after done) (sym g.becomes) no_change;
        order = record {
          epochs =
              never_fall_more 0 (change_epoch (state_of desk.register) (mode_of session.mode))
              (change_epoch (state_of new_desk.register) (mode_of now.mode)) done g.epochs order.epochs;
          begun = order.begun;
        };
      };
    }

pub executes : (sentence : Sentence) (added : List JournalEntry) (desk : DeskState) (session : Session)
    (new_desk : DeskState) (now : Session) (said : Reply) → Grow sentence added desk session new_desk now
    → Answers sentence added desk session said → ExecutesAtDesk sentence desk session new_desk now said
executes sentence added desk session new_desk now said g answers =
    executes_with sentence added [] desk session new_desk now said (record {
      safe = ap (λ (d : DeskState). d.register.safe) g.desk_is;
      journal = ap (λ (d : DeskState). d.register.journal) g.desk_is;
      cubes = ap (λ (d : DeskState). d.cubes) g.desk_is ∙ sym (append-nil desk.cubes);
      statements = g.statements;
      every = g.every;
      becomes = g.becomes;
      own = g.own;
      owners = g.owners;
      makes = λ run said. g.no_cube run;
      agrees = λ run said.
          subst (AgreeWithCubes run desk.cubes added) (sym (ap (λ (d : DeskState). d.cubes) g.desk_is))
          (g.agrees run said);
      epochs = g.epochs;
      no_change = g.no_change;
    }) answers
