-- Calls of `int`, `string`, `bool` and `time` are safe.
use Rattle.std.proofs.Common.{◌≡◌, refl, sym, subst, inl, inr, true, false, List, [], ◌∷◌, ℕ, ℤ, pos, Some, None, Ok, Err}
use Rattle.std.specs.Prelude.{if◌then◌else◌, codes, IsTrue, Option}
use Rattle.std.specs.Ordering.{int_eq}
use Rattle.std.proofs.lemmas.Bool.{and_parts}
use mathlib.Core.Bool.{false≢true}
use Rattle.fx_base.specs.Text.{same_text}
use Rattle.fx_base.specs.declared.fault.FaultKind.TheVariants.{BadConversion}
use Rattle.fx_base.specs.declared.place.Place.{Place}
use Rattle.fx_time.specs.Time.{time_text}
use Rattle.fx_time.specs.Value.{time_value}
use Rattle.fx_value.specs.Ends.{Stuck}
use Rattle.fx_value.specs.declared.scalar.Kind.{Kind}
use Rattle.fx_value.specs.declared.scalar.Kind.TheVariants as kind
use Rattle.fx_value.specs.declared.scalar.Scalar.{Scalar}
use Rattle.fx_value.specs.declared.scalar.Scalar.TheVariants as scalar
use Rattle.fx_ops.specs.Convert.{converted, flag, int_value, is_convertible, named_flag, read}
use Rattle.fx_ops.specs.Kinds.{is_kind, is_whole}
use Rattle.fx_types.specs.Ground.{Ground, g_absent, g_is}
use Rattle.fx_types.specs.Kinds.{IsAmong, of_kind}
use Rattle.fx_schemes.specs.Builtins.{IsLine}
use Rattle.fx_meaning.specs.declared.native.Native.TheVariants as n
use Rattle.fx_meaning.specs.Ends.{cell_at}
use Rattle.fx_meaning.specs.Forms.{cell_of}
use Rattle.fx_meaning.specs.Meaning.{Calls}
use Rattle.fx_meaning.specs.Natives.{convert_call, convert_of}
use Rattle.fx_meaning.specs.Value.{Slots, look}
use Rattle.fx_build.specs.Fit.{fits, is_cell}
use Rattle.fx_build.specs.Safe.{IsSafe}
use Rattle.fx_build.proofs.AnswerLaws.{either_makes}
use Rattle.fx_build.proofs.Callable.{NativeRuns}
use Rattle.fx_build.proofs.KindLaws.{Makes, cell_at_safe}
use Rattle.fx_build.proofs.OperatorLaws.{limited_makes}
use Rattle.fx_build.proofs.ParamLaws.{Suits}
use Rattle.fx_build.proofs.PlainCalls.{IsAt, Lined, call_runs, cell_safe}
use Rattle.fx_build.proofs.SafeLaws.{safe_then}

-- ---- what conversions answer

flag_makes : (n : ℤ) → Makes kind.Bool (flag n)
flag_makes n =
    either_makes kind.Bool (int_eq n (pos 1)) (Ok (scalar.Bool true)) (if int_eq n (pos 0) then Ok (scalar.Bool false) else Err BadConversion) refl
    (either_makes kind.Bool (int_eq n (pos 0)) (Ok (scalar.Bool false)) (Err BadConversion) refl tt)

named_makes : (text : List ℕ) → Makes kind.Bool (named_flag text)
named_makes text =
    either_makes kind.Bool (same_text text (codes "true")) (Ok (scalar.Bool true)) (if same_text text (codes "false") then Ok (scalar.Bool false) else Err BadConversion) refl
    (either_makes kind.Bool (same_text text (codes "false")) (Ok (scalar.Bool false)) (Err BadConversion) refl tt)

read_makes : (k : Kind) (made : ℤ → Scalar) (n : Option ℤ) → ((n : ℤ) → IsTrue (is_kind (made n) k)) → Makes k (read made n)
read_makes k made (Some n) h = h n
read_makes k made None h = tt

converted_makes : (k : Kind) (a : Scalar) → Makes k (converted k a)
converted_makes kind.Bool scalar.Null = refl
converted_makes kind.Bool (scalar.Bool b) = refl
converted_makes kind.Bool (scalar.Int n) = flag_makes n
converted_makes kind.Bool (scalar.Text text) = named_makes text
converted_makes kind.Bool (scalar.Time t) = refl
converted_makes kind.Int (scalar.Text text) = read_makes kind.Int scalar.Int (int_value text) (λ n. refl)
converted_makes kind.Int scalar.Null = refl
converted_makes kind.Int (scalar.Bool b) = refl
converted_makes kind.Int (scalar.Int n) = refl
converted_makes kind.Int (scalar.Time t) = refl
converted_makes kind.Text (scalar.Text text) = limited_makes text
converted_makes kind.Text (scalar.Time t) = limited_makes (time_text t)
converted_makes kind.Text scalar.Null = refl
converted_makes kind.Text (scalar.Bool b) = refl
converted_makes kind.Text (scalar.Int n) = refl
converted_makes kind.Time (scalar.Text text) = read_makes kind.Time scalar.Time (time_value text) (λ t. refl)
converted_makes kind.Time scalar.Null = refl
converted_makes kind.Time (scalar.Bool b) = refl
converted_makes kind.Time (scalar.Int n) = refl
converted_makes kind.Time (scalar.Time t) = refl

-- ---- what they take

abbrev Converts : Kind → Kind → Type 0
Converts k j = (a : Scalar) → IsTrue (is_kind a j) → is_convertible k a ≡ true

abbrev AllConvert : Kind → List Kind → Type 0
AllConvert k [] = Unit {0}
AllConvert k (j ∷ js) = Converts k j × AllConvert k js

to_int : (j : Kind) → Converts kind.Int j
to_int j a is = refl

to_text : (j : Kind) → Converts kind.Text j
to_text j a is = refl

bools : Converts kind.Bool kind.Bool
bools (scalar.Time t) is = absurd (false≢true is)
bools _ is = refl

ints : Converts kind.Bool kind.Int
ints (scalar.Time t) is = absurd (false≢true is)
ints _ is = refl

texts : Converts kind.Bool kind.Text
texts (scalar.Time t) is = absurd (false≢true is)
texts _ is = refl

to_time : Converts kind.Time kind.Time
to_time (scalar.Bool b) is = absurd (false≢true is)
to_time _ is = refl

int_to_time : Converts kind.Time kind.Int
int_to_time (scalar.Bool b) is = absurd (false≢true is)
int_to_time _ is = refl

text_to_time : Converts kind.Time kind.Text
text_to_time (scalar.Bool b) is = absurd (false≢true is)
text_to_time _ is = refl

of_kind_safe : (place : Place) (k j : Kind) (args : Slots) → Converts k j → IsAt args (codes "v") (of_kind j) → IsSafe (λ v. fits v (of_kind k)) (convert_of place k args)
of_kind_safe place k j args converts at =
    safe_then (λ a. IsTrue (is_cell (Some j) a)) (λ v. fits v (of_kind k)) (cell_of (codes "v") args) (convert_call place k) (cell_safe j args (codes "v") at)
    (λ a is. subst (λ c. IsSafe (λ v. fits v (of_kind k)) (if c then cell_at place (converted k a) else Stuck)) (sym (converts a (and_parts (is_kind a j) (is_whole a) is).0))
    (cell_at_safe place k (converted k a) (converted_makes k a)))

converts_safe : (place : Place) (k : Kind) (args : Slots) (js : List Kind) (c : Ground) → AllConvert k js → IsAmong js false c → IsAt args (codes "v") c
    → IsSafe (λ v. fits v (of_kind k)) (convert_of place k args)
converts_safe place k args [] c all h at = absurd (false≢true h.0)
converts_safe place k args (j ∷ js) c all (inl e) at = of_kind_safe place k j args all.0 (subst (λ g. Suits (look (codes "v") args) (g_is g) g_absent) e at)
converts_safe place k args (j ∷ js) c all (inr h) at = converts_safe place k args js c all.1 h at

abbrev kinds : List Kind
kinds = kind.Bool ∷ kind.Int ∷ kind.Text ∷ kind.Time ∷ []

convert_lined : (k : Kind) → Lined (n.Convert k)
unfolding IsLine
convert_lined kind.Int w L h =
    ((codes "v", h.0) ∷ [], of_kind kind.Int, h.2, λ place moment args within suit. converts_safe place kind.Int args kinds h.0 (to_int kind.Bool, (to_int kind.Int, (to_int kind.Text, (to_int kind.Time, tt)))) h.1 (suit (codes "v") refl))
convert_lined kind.Text w L h =
    ((codes "v", h.0) ∷ [], of_kind kind.Text, h.2, λ place moment args within suit. converts_safe place kind.Text args kinds h.0 (to_text kind.Bool, (to_text kind.Int, (to_text kind.Text, (to_text kind.Time, tt)))) h.1 (suit (codes "v") refl))
convert_lined kind.Bool w L h =
    ((codes "v", h.0) ∷ [], of_kind kind.Bool, h.2, λ place moment args within suit. converts_safe place kind.Bool args (kind.Bool ∷ kind.Int ∷ kind.Text ∷ []) h.0 (bools, (ints, (texts, tt))) h.1 (suit (codes "v") refl))
convert_lined kind.Time w L h =
    ((codes "v", h.0) ∷ [], of_kind kind.Time, h.2, λ place moment args within suit. converts_safe place kind.Time args (kind.Time ∷ kind.Int ∷ kind.Text ∷ []) h.0 (to_time, (int_to_time, (text_to_time, tt))) h.1 (suit (codes "v") refl))

pub convert_runs : (calls : Calls) (k : Kind) → NativeRuns calls (n.Convert k)
convert_runs calls k = call_runs calls (n.Convert k) (convert_lined k)
