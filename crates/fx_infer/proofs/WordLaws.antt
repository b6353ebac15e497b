-- The lines of a built-in hang on what is given at each label, and not on the order of the labels.
use Rattle.std.proofs.Common.{◌≡◌, sym, ap, ◌∙◌, true, List, [], ◌∷◌, Option, None, Some}
use Rattle.std.specs.Prelude.{codes}
use Rattle.fx_types.specs.Term.{Label}
use Rattle.fx_schemes.specs.declared.list.Builtin.{Builtin}
use Rattle.fx_schemes.specs.declared.list.Builtin.TheVariants as b
use Rattle.fx_schemes.specs.Builtins.{IsLine}
use Rattle.fx_schemes.specs.Given.{Given, words_at, text_at, list_at, one_of, all_of, among, is_one_of, IsWord, IsWordOr, AreWords, AreWordsOr}
use Rattle.fx_schemes.specs.Line.{Line}

-- the same is given at each label
abbrev pub SameWords : Given → Given → Type 0
SameWords w v = (l : Label) → words_at w l ≡ words_at v l

text_same : (w v : Given) → SameWords w v → (x : Label) (d : Option Label) → text_at w x d ≡ text_at v x d
unfolding text_at
text_same w v same x d = ap (λ o. one_of o d) (same x)

list_same : (w v : Given) → SameWords w v → (x : Label) (d : Option (List Label)) → list_at w x d ≡ list_at v x d
unfolding list_at
list_same w v same x d = ap (λ o. all_of o d) (same x)

word : (w v : Given) → SameWords w v → (x a : Label) → IsWord w x a → IsWord v x a
word w v same x a h = sym (text_same w v same x None) ∙ h

word_or : (w v : Given) → SameWords w v → (x d a : Label) → IsWordOr w x d a → IsWordOr v x d a
word_or w v same x d a h = sym (text_same w v same x (Some d)) ∙ h

words : (w v : Given) → SameWords w v → (x : Label) (xs : List Label) → AreWords w x xs → AreWords v x xs
words w v same x xs h = sym (list_same w v same x None) ∙ h

words_or : (w v : Given) → SameWords w v → (x : Label) (ds xs : List Label) → AreWordsOr w x ds xs → AreWordsOr v x ds xs
words_or w v same x ds xs h = sym (list_same w v same x (Some ds)) ∙ h

listed_same : (w v : Given) → SameWords w v → (x d : Label) (ms : List Label) → is_one_of w x d ms ≡ true → is_one_of v x d ms ≡ true
listed_same w v same x d ms h = sym (ap (λ o. among o ms) (text_same w v same x (Some d))) ∙ h

pub line_along : (x : Builtin) (w v : Given) (L : Line) → SameWords w v → IsLine x w L → IsLine x v L
unfolding IsLine
line_along b.From w v L same h = h
line_along b.Texts w v L same h = h
line_along b.Bools w v L same h = h
line_along b.ArrayFrom w v L same h = h
line_along b.Range w v L same h = h
line_along b.Filter w v L same h = (listed_same w v same (codes "onEmpty") (codes "drop") (codes "drop" ∷ []) h.0, h.1)
line_along b.Map w v L same h = h
line_along b.Group w v L same h = (listed_same w v same (codes "mode") (codes "by") (codes "by" ∷ codes "except" ∷ []) h.0, (h.1.0, words_or w v same (codes "columns") [] h.1.0 h.1.1, h.1.2))
line_along b.Union w v L same h = h
line_along b.Window w v L same h = h
line_along b.AggregateWindow w v L same h = (h.0, word w v same (codes "fn") h.0 h.1, h.2)
line_along b.Reduce w v L same h = h
line_along b.Yield w v L same h = h
line_along b.Count w v L same h = (h.0, word_or w v same (codes "column") (codes "_value") h.0 h.1, h.2)
line_along b.Sum w v L same h = (h.0, word_or w v same (codes "column") (codes "_value") h.0 h.1, h.2)
line_along b.Spread w v L same h = (h.0, word_or w v same (codes "column") (codes "_value") h.0 h.1, h.2)
line_along b.Distinct w v L same h = (h.0, word_or w v same (codes "column") (codes "_value") h.0 h.1, h.2)
line_along b.Min w v L same h = (h.0, word_or w v same (codes "column") (codes "_value") h.0 h.1, h.2)
line_along b.Max w v L same h = (h.0, word_or w v same (codes "column") (codes "_value") h.0 h.1, h.2)
line_along b.First w v L same h = (h.0, word_or w v same (codes "column") (codes "_value") h.0 h.1, h.2)
line_along b.Last w v L same h = (h.0, word_or w v same (codes "column") (codes "_value") h.0 h.1, h.2)
line_along b.Keep w v L same h = (h.0, words w v same (codes "columns") h.0 h.1, h.2)
line_along b.Drop w v L same h = (h.0, words w v same (codes "columns") h.0 h.1, h.2)
line_along b.Rename w v L same h = (h.0, sym (same (codes "columns")) ∙ h.1, h.2)
line_along b.Duplicate w v L same h = (h.0, word w v same (codes "column") h.0 h.1, (h.2.0, word w v same (codes "as") h.2.0 h.2.1, h.2.2))
line_along b.Set w v L same h = (h.0, word w v same (codes "key") h.0 h.1, h.2)
line_along b.Fill w v L same h = (h.0, word_or w v same (codes "column") (codes "_value") h.0 h.1, h.2)
line_along b.Sort w v L same h = (h.0, words_or w v same (codes "columns") (codes "_value" ∷ []) h.0 h.1, h.2)
line_along b.Limit w v L same h = h
line_along b.Tail w v L same h = h
line_along b.Difference w v L same h = (h.0, word_or w v same (codes "columns") (codes "_value") h.0 h.1, h.2)
line_along b.CumulativeSum w v L same h = (h.0, word_or w v same (codes "columns") (codes "_value") h.0 h.1, h.2)
line_along b.Elapsed w v L same h = (h.0, word_or w v same (codes "timeColumn") (codes "_time") h.0 h.1, (h.2.0, word_or w v same (codes "columnName") (codes "elapsed") h.2.0 h.2.1, h.2.2))
line_along b.Pivot w v L same h = (h.0, words w v same (codes "rowKey") h.0 h.1, (h.2.0, words w v same (codes "columnKey") h.2.0 h.2.1, (h.2.2.0, word w v same (codes "valueColumn") h.2.2.0 h.2.2.1, h.2.2.2)))
line_along b.JoinInner w v L same h = h
line_along b.JoinLeft w v L same h = h
line_along b.JoinRight w v L same h = h
line_along b.JoinFull w v L same h = h
line_along b.JoinTime w v L same h = (listed_same w v same (codes "method") (codes "inner") (codes "inner" ∷ codes "left" ∷ codes "right" ∷ codes "full" ∷ []) h.0, h.1)
line_along b.True w v L same h = h
line_along b.False w v L same h = h
line_along b.Now w v L same h = h
line_along b.Int w v L same h = h
line_along b.String w v L same h = h
line_along b.Bool w v L same h = h
line_along b.Time w v L same h = h
line_along b.Length w v L same h = h
line_along b.Contains w v L same h = h
line_along b.ContainsStr w v L same h = h
line_along b.HasPrefix w v L same h = h
line_along b.HasSuffix w v L same h = h
line_along b.Strlen w v L same h = h
line_along b.Substring w v L same h = h
line_along b.TrimPrefix w v L same h = h
line_along b.TrimSuffix w v L same h = h
line_along b.ReplaceAll w v L same h = h
line_along b.Split w v L same h = h
line_along b.JoinStr w v L same h = h
line_along b.Repeat w v L same h = h
line_along b.Year w v L same h = h
line_along b.Month w v L same h = h
line_along b.MonthDay w v L same h = h
line_along b.YearDay w v L same h = h
line_along b.WeekDay w v L same h = h
line_along b.Hour w v L same h = h
line_along b.Minute w v L same h = h
line_along b.Second w v L same h = h
line_along b.Nanosecond w v L same h = h
line_along b.Truncate w v L same h = h
line_along b.Add w v L same h = h
line_along b.Sub w v L same h = h
