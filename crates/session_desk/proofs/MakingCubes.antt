-- The cubes after a CREATE CUBE.
use Rattle.std.proofs.Common.{◌≡◌, ◌∙◌, ℕ, Bool, true, false, ◌==◌, if◌then◌else◌, length, List, refl, sym, ap, subst}
use Rattle.std.proofs.lemmas.Bool.{both_ways}
use Rattle.cube_language.specs.CubesText.{cubes_limit}
use Rattle.cube_language.specs.declared.decl.Decl.{Decl}
use Rattle.cube_journal.specs.Legal.{has_cube}
use Rattle.cube_journal.specs.declared.refusal.Refusal.{Refusal}
use Rattle.cube_journal.specs.declared.reply.Reply.{Reply}
use Rattle.cube_journal.specs.declared.reply.Reply.TheVariants as reply
use Rattle.aosi_desk.specs.State.{state_of}
use Rattle.aosi_desk.specs.Desks.{DeskState, cube_answer, decl_names, desk_after_answer}
use Rattle.aosi_desk.specs.declared.cube.CubeAnswer.{CubeAnswer}
use Rattle.aosi_desk.specs.declared.cube.CubeAnswer.TheVariants.{Created, Exists, TooMany}
use Rattle.session_desk.specs.declared.answered.Answered.{Answered}
use Rattle.session_desk.specs.declared.answered.Answered.TheVariants.{Replied, Stopped}
use Rattle.session_desk.specs.CubeReplies.{HasNewName, created_reply, cubes_after_answer, cubes_after_create}
use Rattle.session_desk.specs.Executed.{IfReplied}

pub after_reply : (cubes : List Decl) (d : Decl) (answer : CubeAnswer) (name : List ℕ)
    → cubes_after_answer cubes d answer ≡ cubes_after_create cubes d (Replied (created_reply answer name))
after_reply cubes d (Created epoch place) name = refl
after_reply cubes d Exists name = refl
after_reply cubes d TooMany name = refl

after_answer : (d : Decl) (statement : ℕ) (desk new_desk : DeskState) (answer : CubeAnswer)
    → new_desk ≡ desk_after_answer desk 1 statement d answer
    → new_desk.cubes ≡ cubes_after_answer desk.cubes d answer
after_answer d statement desk new_desk (Created epoch place) h = ap (λ (x : DeskState). x.cubes) h
after_answer d statement desk new_desk Exists h = ap (λ (x : DeskState). x.cubes) h
after_answer d statement desk new_desk TooMany h = ap (λ (x : DeskState). x.cubes) h

pub desk_cubes : (d : Decl) (statement : ℕ) (desk new_desk : DeskState) (answer : CubeAnswer) (name : List ℕ)
    → new_desk ≡ desk_after_answer desk 1 statement d answer
    → new_desk.cubes ≡ cubes_after_create desk.cubes d (Replied (created_reply answer name))
desk_cubes d statement desk new_desk answer name h =
    after_answer d statement desk new_desk answer h ∙ after_reply desk.cubes d answer name

abbrev is_made : CubeAnswer → Bool
is_made (Created epoch place) = true
is_made answer = false

-- A cube is made only where none has its name.
new_at : (desk : DeskState) (name : List ℕ) (epoch place : ℕ) → Created epoch place ≡ cube_answer desk name
    → has_cube (decl_names desk.cubes) name ≡ false
new_at desk name epoch place h =
    at (has_cube (decl_names desk.cubes) name) (length desk.cubes == cubes_limit) h
  where
    at : (a b : Bool) → Created epoch place
        ≡ (if a then Exists
        else (if b then TooMany else Created (state_of desk.register).ec (length desk.cubes)))
        → a ≡ false
    at true b h = absurd (both_ways true (ap is_made h) refl)
    at false b h = refl

pub new_name : (d : Decl) (desk : DeskState) (answer : CubeAnswer) (name : List ℕ)
    → answer ≡ cube_answer desk d.name → HasNewName desk.cubes d (Replied (created_reply answer name))
new_name d desk (Created epoch place) name h = new_at desk d.name epoch place h
new_name d desk Exists name h = tt
new_name d desk TooMany name h = tt

-- A refusal makes none.
pub refusal_makes_none : (result : Answered) (r : Refusal) (cubes : List Decl) (d : Decl)
    → IfReplied result (λ said. said ≡ reply.Refused r) → cubes ≡ cubes_after_create cubes d result
refusal_makes_none (Replied said) r cubes d h =
    sym (ap (λ (x : Reply). cubes_after_create cubes d (Replied x)) h)
refusal_makes_none Stopped r cubes d h = refl

pub refusal_names_none : (result : Answered) (r : Refusal) (cubes : List Decl) (d : Decl)
    → IfReplied result (λ said. said ≡ reply.Refused r) → HasNewName cubes d result
refusal_names_none (Replied said) r cubes d h =
    subst (λ (x : Reply). HasNewName cubes d (Replied x)) (sym h) tt
refusal_names_none Stopped r cubes d h = tt
