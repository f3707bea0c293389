-- The keywords by the letters that they begin with.
-- Source: this project's own.
use Rattle.std.specs.Prelude.{ℕ, ◌==◌, List, [], ◌∷◌, if◌then◌else◌}
use Rattle.cube_language.specs.declared.keyword.Keyword.{Keyword as KeywordWord}
use Rattle.cube_language.specs.declared.keyword.Keyword.TheVariants as keyword

-- The keywords that begin with a small letter.
abbrev pub keywords_at : ℕ → List KeywordWord
keywords_at letter =
    if letter == 97 then keyword.And ∷ keyword.Avg ∷ keyword.Asc ∷ []
    else (if letter == 98 then keyword.Between ∷ keyword.By ∷ keyword.Begin ∷ []
    else (if letter == 99 then keyword.Count ∷ keyword.Commit ∷ keyword.Create ∷ keyword.Cube ∷ []
    else (if letter == 100 then keyword.Delete ∷ keyword.Dim ∷ keyword.Desc ∷ []
    else (if letter == 101 then keyword.Epochs ∷ []
    else (if letter == 102 then keyword.From ∷ keyword.Flush ∷ []
    else (if letter == 103 then keyword.Group ∷ []
    else (if letter == 104 then keyword.Having ∷ []
    else (if letter == 105 then keyword.In ∷ keyword.Insert ∷ keyword.Into ∷ keyword.Int ∷ []
    else (if letter == 108 then keyword.Load ∷ keyword.Limit ∷ []
    else (if letter == 109 then keyword.Min ∷ keyword.Max ∷ keyword.Metric ∷ []
    else (if letter == 111 then keyword.Order ∷ []
    else (if letter == 112 then keyword.Purge ∷ []
    else (if letter == 114 then keyword.Reject ∷ keyword.Rollback ∷ []
    else (if letter == 115 then keyword.Select ∷ keyword.Sum ∷ keyword.Show ∷ []
    else (if letter == 116 then keyword.Text ∷ []
    else (if letter == 118 then keyword.Values ∷ []
    else (if letter == 119 then keyword.Where ∷ keyword.Watch ∷ []
    else [])))))))))))))))))
