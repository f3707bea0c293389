-- The keywords of statements, which are no names.
-- Source: this project's own, words of SQL among them.
use Rattle.std.specs.Prelude.{ℕ, Bool, List, find, codes, Option}
use Rattle.std.specs.Option.{is_some}
use Rattle.std.specs.Str.{str_eq_ignore_ascii_case}
use Rattle.cube_language.specs.declared.keyword.Keyword.{Keyword as KeywordWord}
use Rattle.cube_language.specs.declared.keyword.Keyword.TheVariants as keyword
use Rattle.cube_language.specs.declared.keyword.TheConstants.{KEYWORDS}

-- A keyword in lower case.
abbrev pub keyword_text : KeywordWord → List ℕ
keyword_text keyword.Select = codes "select"
keyword_text keyword.From = codes "from"
keyword_text keyword.Where = codes "where"
keyword_text keyword.And = codes "and"
keyword_text keyword.In = codes "in"
keyword_text keyword.Between = codes "between"
keyword_text keyword.Group = codes "group"
keyword_text keyword.By = codes "by"
keyword_text keyword.Sum = codes "sum"
keyword_text keyword.Count = codes "count"
keyword_text keyword.Min = codes "min"
keyword_text keyword.Max = codes "max"
keyword_text keyword.Avg = codes "avg"
keyword_text keyword.Insert = codes "insert"
keyword_text keyword.Into = codes "into"
keyword_text keyword.Values = codes "values"
keyword_text keyword.Load = codes "load"
keyword_text keyword.Reject = codes "reject"
keyword_text keyword.Delete = codes "delete"
keyword_text keyword.Begin = codes "begin"
keyword_text keyword.Commit = codes "commit"
keyword_text keyword.Rollback = codes "rollback"
keyword_text keyword.Flush = codes "flush"
keyword_text keyword.Purge = codes "purge"
keyword_text keyword.Show = codes "show"
keyword_text keyword.Epochs = codes "epochs"
keyword_text keyword.Create = codes "create"
keyword_text keyword.Cube = codes "cube"
keyword_text keyword.Dim = codes "dim"
keyword_text keyword.Metric = codes "metric"
keyword_text keyword.Text = codes "text"
keyword_text keyword.Int = codes "int"
keyword_text keyword.Having = codes "having"
keyword_text keyword.Order = codes "order"
keyword_text keyword.Limit = codes "limit"
keyword_text keyword.Asc = codes "asc"
keyword_text keyword.Desc = codes "desc"
keyword_text keyword.Watch = codes "watch"

-- A word spells a keyword, in whatever case.
abbrev pub spells : KeywordWord → List ℕ → Bool
spells k word = str_eq_ignore_ascii_case word (keyword_text k)

-- The keyword that a word spells.
unfoldable pub keyword_of : List ℕ → Option KeywordWord
keyword_of word = find (λ k. spells k word) KEYWORDS

-- A word spells a keyword.
abbrev pub is_keyword : List ℕ → Bool
is_keyword word = is_some (keyword_of word)
