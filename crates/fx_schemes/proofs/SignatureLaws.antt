-- Each line of a built-in has exactly the labels of its signature.
use Rattle.std.proofs.Common.{◌≡◌, refl, sym, ap, subst, Bool, true, false, List, [], ◌∷◌, Option, None, Some, map}
use Rattle.std.specs.Prelude.{codes, if◌then◌else◌, IsSome, is_some}
use mathlib.Core.Bool.{true≢false}
use Rattle.fx_base.specs.Text.{same_text}
use Rattle.fx_types.specs.Term.{Label}
use Rattle.fx_types.specs.Ground.{Ground, GroundField, GroundRow, g_stream, g_absent, g_is, listed}
use Rattle.fx_schemes.specs.declared.list.Builtin.{Builtin}
use Rattle.fx_schemes.specs.declared.list.Builtin.TheVariants as b
use Rattle.fx_schemes.specs.declared.given.LabelWords as given
use Rattle.fx_schemes.specs.Builtins.{IsLine, AtColumn, Counts, Sums, Distincts, Extremes, Ends, differ}
use Rattle.fx_schemes.specs.Given.{Given, words_at, text_at, list_at, one_of, all_of}
use Rattle.fx_schemes.specs.Line.{Line, Parameters, parameters, call, piped}
use Rattle.fx_schemes.specs.Signature.{Word, Signature, signature_of, words_of, labels_of, is_present, IsAtExactly, IsFunctionOf, HasSignature, AreGiven}

-- parameters stand at exactly their labels

abbrev names : Parameters → List Label
names ps = map (λ p. p.0) ps

either_present : (c : Bool) (t : Ground) (f : GroundField) (d : Bool) → is_present f ≡ d
    → is_present (if c then g_is t else f) ≡ (if c then true else d)
either_present true t f d e = refl
either_present false t f d e = e

at_their_labels : (ps : Parameters) → IsAtExactly (names ps) (parameters ps)
at_their_labels [] l = refl
at_their_labels (p ∷ ps) l = either_present (same_text l p.0) p.1 (parameters ps l) (listed l (names ps)) (at_their_labels ps l)

-- a call, and what takes its input by the pipe

called : (ps os : Parameters) (t : Ground) → IsFunctionOf (record { required = names ps; optional = names os; pipe = None; words = [] }) (call ps os t)
called ps os t = record {
  needs = parameters ps;
  input = g_absent;
  gives = t;
  type = refl;
  required = at_their_labels ps;
  optional = at_their_labels os;
  piped = refl;
  pipe_label = refl;
  labels = refl;
}

by_pipe : (x : Label) (ps os : Parameters) (ws : List Word) (r : GroundRow) (t : Ground)
    → IsFunctionOf (record { required = names ps; optional = names os; pipe = Some x; words = ws }) (piped x r (map (λ w. w.label) ws) ps os t)
by_pipe x ps os ws r t = record {
  needs = parameters ps;
  input = g_is (g_stream r);
  gives = t;
  type = refl;
  required = at_their_labels ps;
  optional = at_their_labels os;
  piped = (g_stream r, refl);
  pipe_label = refl;
  labels = refl;
}

by_tables : (ps os : Parameters) (ws : List Word) (r : GroundRow) (t : Ground)
    → IsFunctionOf (record { required = names ps; optional = names os; pipe = Some (codes "tables"); words = ws }) (piped (codes "tables") r (map (λ w. w.label) ws) ps os t)
by_tables = by_pipe (codes "tables")

along : {s : Signature} {K L : Line} → L ≡ K → IsFunctionOf s K → IsFunctionOf s L
along {s = s} e f = subst (IsFunctionOf s) (sym e) f

at_column : (Makes : Label → GroundRow → GroundRow → Type 0) (x : Label) (L : Line) → AtColumn Makes x L → HasSignature (signature_of b.Count) L
at_column Makes x L h = along h.3 (by_tables [] [] (words_of b.Count) _ _)

pub line_signature : (x : Builtin) (w : Given) (L : Line) → IsLine x w L → HasSignature (signature_of x) L
unfolding IsLine
line_signature b.From w L h = along h (called ((codes "bucket", _) ∷ []) [] _)
line_signature b.Texts w L h = along h (called ((codes "bucket", _) ∷ []) [] _)
line_signature b.Bools w L h = along h (called ((codes "bucket", _) ∷ []) [] _)
line_signature b.ArrayFrom w L h = along h.1 (called ((codes "rows", _) ∷ []) [] _)
line_signature b.Range w L h = along h.6 (by_tables ((codes "start", _) ∷ []) ((codes "stop", _) ∷ []) [] _ _)
line_signature b.Filter w L h = along h.1.1 (by_tables ((codes "fn", _) ∷ []) [] (words_of b.Filter) _ _)
line_signature b.Map w L h = along h.2 (by_tables ((codes "fn", _) ∷ []) [] [] _ _)
line_signature b.Group w L h = along h.1.2.2 (by_tables [] [] (words_of b.Group) _ _)
line_signature b.Union w L h = along h.1 (called ((codes "tables", _) ∷ []) [] _)
line_signature b.Window w L h = along h.2 (by_tables ((codes "every", _) ∷ []) ((codes "period", _) ∷ []) [] _ _)
line_signature b.AggregateWindow w L h = along h.2.4 (by_tables ((codes "every", _) ∷ []) ((codes "createEmpty", _) ∷ []) (words_of b.AggregateWindow) _ _)
line_signature b.Reduce w L h = along h.2 (by_tables ((codes "identity", _) ∷ (codes "fn", _) ∷ []) [] [] _ _)
line_signature b.Yield w L h = along h.1 (by_tables [] ((codes "name", _) ∷ []) [] _ _)
line_signature b.Count w L h = at_column Counts h.0 L h.2
line_signature b.Sum w L h = at_column Sums h.0 L h.2
line_signature b.Spread w L h = at_column Sums h.0 L h.2
line_signature b.Distinct w L h = at_column Distincts h.0 L h.2
line_signature b.Min w L h = at_column Extremes h.0 L h.2
line_signature b.Max w L h = at_column Extremes h.0 L h.2
line_signature b.First w L h = at_column Ends h.0 L h.2
line_signature b.Last w L h = at_column Ends h.0 L h.2
line_signature b.Keep w L h = along h.2.2 (by_tables [] [] (words_of b.Keep) _ _)
line_signature b.Drop w L h = along h.2.1 (by_tables [] [] (words_of b.Drop) _ _)
line_signature b.Rename w L h = along h.2.1.2 (by_tables [] [] (words_of b.Rename) _ _)
line_signature b.Duplicate w L h = along h.2.2.4 (by_tables [] [] (words_of b.Duplicate) _ _)
line_signature b.Set w L h = along h.2.1 (by_tables ((codes "value", _) ∷ []) [] (words_of b.Set) _ _)
line_signature b.Fill w L h = along h.2.4 (by_tables ((codes "value", _) ∷ []) [] (words_of b.Fill) _ _)
line_signature b.Sort w L h = along h.2.2 (by_tables [] ((codes "desc", _) ∷ []) (words_of b.Sort) _ _)
line_signature b.Limit w L h = along h.1 (by_tables ((codes "n", _) ∷ []) ((codes "offset", _) ∷ []) [] _ _)
line_signature b.Tail w L h = along h.1 (by_tables ((codes "n", _) ∷ []) ((codes "offset", _) ∷ []) [] _ _)
line_signature b.Difference w L h = along h.2.2 (by_tables [] [] (words_of b.Difference) _ _)
line_signature b.CumulativeSum w L h = along h.2.2 (by_tables [] [] (words_of b.CumulativeSum) _ _)
line_signature b.Elapsed w L h = along h.2.2.2 (by_tables [] ((codes "unit", _) ∷ []) (words_of b.Elapsed) _ _)
line_signature b.Pivot w L h = along h.2.2.2.1.6 (by_tables [] [] (words_of b.Pivot) _ _)
line_signature b.JoinInner w L h = along h.3 (by_pipe (codes "left") ((codes "right", _) ∷ (codes "on", _) ∷ (codes "as", _) ∷ []) [] [] _ _)
line_signature b.JoinLeft w L h = along h.3 (by_pipe (codes "left") ((codes "right", _) ∷ (codes "on", _) ∷ (codes "as", _) ∷ []) [] [] _ _)
line_signature b.JoinRight w L h = along h.3 (by_pipe (codes "left") ((codes "right", _) ∷ (codes "on", _) ∷ (codes "as", _) ∷ []) [] [] _ _)
line_signature b.JoinFull w L h = along h.3 (by_pipe (codes "left") ((codes "right", _) ∷ (codes "on", _) ∷ (codes "as", _) ∷ []) [] [] _ _)
line_signature b.JoinTime w L h = along h.1.5 (by_pipe (codes "left") ((codes "right", _) ∷ (codes "as", _) ∷ []) [] (words_of b.JoinTime) _ _)
line_signature b.True w L h = subst (HasSignature None) (sym h) (refl, tt)
line_signature b.False w L h = subst (HasSignature None) (sym h) (refl, tt)
line_signature b.Now w L h = along h (called [] [] _)
line_signature b.Int w L h = along h.2 (called ((codes "v", _) ∷ []) [] _)
line_signature b.String w L h = along h.2 (called ((codes "v", _) ∷ []) [] _)
line_signature b.Bool w L h = along h.2 (called ((codes "v", _) ∷ []) [] _)
line_signature b.Time w L h = along h.2 (called ((codes "v", _) ∷ []) [] _)
line_signature b.Length w L h = along h.1 (called ((codes "arr", _) ∷ []) [] _)
line_signature b.Contains w L h = along h.2 (called ((codes "value", _) ∷ (codes "set", _) ∷ []) [] _)
line_signature b.ContainsStr w L h = along h (called ((codes "v", _) ∷ (codes "substr", _) ∷ []) [] _)
line_signature b.HasPrefix w L h = along h (called ((codes "v", _) ∷ (codes "prefix", _) ∷ []) [] _)
line_signature b.HasSuffix w L h = along h (called ((codes "v", _) ∷ (codes "suffix", _) ∷ []) [] _)
line_signature b.Strlen w L h = along h (called ((codes "v", _) ∷ []) [] _)
line_signature b.Substring w L h = along h (called ((codes "v", _) ∷ (codes "start", _) ∷ (codes "end", _) ∷ []) [] _)
line_signature b.TrimPrefix w L h = along h (called ((codes "v", _) ∷ (codes "prefix", _) ∷ []) [] _)
line_signature b.TrimSuffix w L h = along h (called ((codes "v", _) ∷ (codes "suffix", _) ∷ []) [] _)
line_signature b.ReplaceAll w L h = along h (called ((codes "v", _) ∷ (codes "t", _) ∷ (codes "u", _) ∷ []) [] _)
line_signature b.Split w L h = along h (called ((codes "v", _) ∷ (codes "t", _) ∷ []) [] _)
line_signature b.JoinStr w L h = along h (called ((codes "arr", _) ∷ (codes "v", _) ∷ []) [] _)
line_signature b.Repeat w L h = along h (called ((codes "v", _) ∷ (codes "i", _) ∷ []) [] _)
line_signature b.Year w L h = along h (called ((codes "t", _) ∷ []) [] _)
line_signature b.Month w L h = along h (called ((codes "t", _) ∷ []) [] _)
line_signature b.MonthDay w L h = along h (called ((codes "t", _) ∷ []) [] _)
line_signature b.YearDay w L h = along h (called ((codes "t", _) ∷ []) [] _)
line_signature b.WeekDay w L h = along h (called ((codes "t", _) ∷ []) [] _)
line_signature b.Hour w L h = along h (called ((codes "t", _) ∷ []) [] _)
line_signature b.Minute w L h = along h (called ((codes "t", _) ∷ []) [] _)
line_signature b.Second w L h = along h (called ((codes "t", _) ∷ []) [] _)
line_signature b.Nanosecond w L h = along h (called ((codes "t", _) ∷ []) [] _)
line_signature b.Truncate w L h = along h (called ((codes "t", _) ∷ (codes "unit", _) ∷ []) [] _)
line_signature b.Add w L h = along h (called ((codes "d", _) ∷ (codes "to", _) ∷ []) [] _)
line_signature b.Sub w L h = along h (called ((codes "d", _) ∷ (codes "from", _) ∷ []) [] _)

-- and the words that no call may leave out are given

one_there : (o : Option given.LabelWords) (x : Label) → one_of o None ≡ Some x → IsSome o
one_there None x e = cc
one_there (Some g) x e = refl

all_there : (o : Option given.LabelWords) (xs : List Label) → all_of o None ≡ Some xs → IsSome o
all_there None xs e = cc
all_there (Some g) xs e = refl

not_due : {A : Type 0} → false ≡ true → A
not_due e = absurd (true≢false (sym e))

pub words_given : (x : Builtin) (w : Given) (L : Line) → IsLine x w L → AreGiven w (words_of x)
unfolding IsLine text_at list_at
words_given b.AggregateWindow w L h = (λ _. one_there (words_at w (codes "fn")) h.0 h.1, tt)
words_given b.Keep w L h = (λ _. all_there (words_at w (codes "columns")) h.0 h.1, tt)
words_given b.Drop w L h = (λ _. all_there (words_at w (codes "columns")) h.0 h.1, tt)
words_given b.Rename w L h = (λ _. ap is_some h.1, tt)
words_given b.Duplicate w L h =
    (λ _. one_there (words_at w (codes "column")) h.0 h.1, (λ _. one_there (words_at w (codes "as")) h.2.0 h.2.1, tt))
words_given b.Set w L h = (λ _. one_there (words_at w (codes "key")) h.0 h.1, tt)
words_given b.Pivot w L h = (
  λ _. all_there (words_at w (codes "rowKey")) h.0 h.1,
  (λ _. all_there (words_at w (codes "columnKey")) h.2.0 h.2.1, (λ _. one_there (words_at w (codes "valueColumn")) h.2.2.0 h.2.2.1, tt)),
)
words_given b.Group w L h = (not_due, (not_due, tt))
words_given b.Elapsed w L h = (not_due, (not_due, tt))
words_given b.Filter w L h = (not_due, tt)
words_given b.Count w L h = (not_due, tt)
words_given b.Sum w L h = (not_due, tt)
words_given b.Spread w L h = (not_due, tt)
words_given b.Distinct w L h = (not_due, tt)
words_given b.Min w L h = (not_due, tt)
words_given b.Max w L h = (not_due, tt)
words_given b.First w L h = (not_due, tt)
words_given b.Last w L h = (not_due, tt)
words_given b.Fill w L h = (not_due, tt)
words_given b.Sort w L h = (not_due, tt)
words_given b.Difference w L h = (not_due, tt)
words_given b.CumulativeSum w L h = (not_due, tt)
words_given b.JoinTime w L h = (not_due, tt)
words_given _ w L h = tt

-- no label stands twice in a signature
pub labels_differ : (x : Builtin) → differ (labels_of x) ≡ true
labels_differ b.From = refl
labels_differ _ = refl
