-- What a CREATE CUBE is answered, by what its desk gave, and the cubes after it.
-- Source: this project's own.
use Rattle.std.specs.Prelude.{◌≡◌, ℕ, false, List, [], ◌∷◌, ◌++◌}
use Rattle.cube_language.specs.declared.decl.Decl.{Decl}
use Rattle.cube_journal.specs.Legal.{has_cube}
use Rattle.cube_journal.specs.declared.refusal.Refusal.TheVariants.{CubeExists, TooManyCubes}
use Rattle.cube_journal.specs.declared.reply.Reply.{Reply}
use Rattle.cube_journal.specs.declared.reply.Reply.TheVariants as reply
use Rattle.aosi_desk.specs.Desks.{decl_names}
use Rattle.aosi_desk.specs.declared.cube.CubeAnswer.{CubeAnswer}
use Rattle.aosi_desk.specs.declared.cube.CubeAnswer.TheVariants.{Created, Exists, TooMany}
use Rattle.session_desk.specs.declared.answered.Answered.{Answered}
use Rattle.session_desk.specs.declared.answered.Answered.TheVariants.{Replied}

-- It is made, or refused because one has its name or there is no place.
abbrev pub created_reply : CubeAnswer → List ℕ → Reply
created_reply (Created epoch place) name = reply.Created epoch
created_reply Exists name = reply.Refused (CubeExists name)
created_reply TooMany name = reply.Refused TooManyCubes

-- The cubes after that: where it is made, its declaration is at the end.
abbrev pub cubes_after_answer : List Decl → Decl → CubeAnswer → List Decl
cubes_after_answer cubes decl (Created epoch place) = cubes ++ decl ∷ []
cubes_after_answer cubes decl Exists = cubes
cubes_after_answer cubes decl TooMany = cubes

-- The cubes after a CREATE CUBE that is answered so: where it is made, its declaration is at the end.
abbrev pub cubes_after_create : List Decl → Decl → Answered → List Decl
cubes_after_create cubes decl (Replied (reply.Created epoch)) = cubes ++ decl ∷ []
cubes_after_create cubes decl answered = cubes

-- Where it is made, no cube had its name.
abbrev pub HasNewName : List Decl → Decl → Answered → Type 0
HasNewName cubes decl (Replied (reply.Created epoch)) = has_cube (decl_names cubes) decl.name ≡ false
HasNewName cubes decl answered = Unit {0}
