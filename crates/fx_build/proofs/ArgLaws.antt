-- The values of arguments and fields, and what they are written with.
use Rattle.std.proofs.Common.{◌≡◌, refl, sym, ap, subst, ◌∙◌, Bool, true, false, Some, None}
use Rattle.std.specs.Prelude.{if◌then◌else◌, Option}
use Rattle.std.specs.Cmp.Lexicographic.{same_text as equal_text}
use Rattle.fx_base.specs.Text.{same_text}
use Rattle.fx_value.specs.declared.scalar.Scalar.TheVariants as scalar
use Rattle.fx_types.specs.Term.{Label}
use Rattle.fx_types.specs.Ground.{Ground, GroundField, GroundRow, g_rec, g_absent, g_is, listed}
use Rattle.fx_schemes.specs.declared.form.Form.{Form}
use Rattle.fx_schemes.specs.declared.given.LabelWords.{LabelWords}
use Rattle.fx_schemes.specs.declared.list.Builtin.{Builtin}
use Rattle.fx_schemes.specs.Builtins.{differ}
use Rattle.fx_schemes.specs.Given.{Given}
use Rattle.fx_ast.specs.Tree.{Tree, Props, no_props, more_props}
use Rattle.fx_meaning.specs.Value.{Val, Slots, no_slots, more_slots, look, or_else}
use Rattle.fx_infer.specs.Arguments.{Elsewhere}
use Rattle.fx_infer.specs.Ask.{Scope}
use Rattle.fx_infer.specs.Parameters.{prop_names}
use Rattle.fx_infer.specs.Typing.{at_form, has_args, has_props}
use Rattle.fx_schemes.specs.Written.{form_at}
use Rattle.fx_infer.specs.Words.{and_words, said, words_of_call}
use Rattle.fx_build.specs.Bound.{typed}
use Rattle.fx_build.specs.Fit.{fits, keeps_at, CellFits, FieldFits, RecordFits}
use Rattle.fx_plan.proofs.SlotLaws.{joined, look_joined}
use Rattle.fx_build.proofs.SlotLaws.{AtSlot, keeps_in, keeps_out}
use Rattle.fx_build.proofs.WordLaws.{Says, first_rest}

-- ---- one by one

-- the value of an argument has the type of its label, or says its words
abbrev pub ArgIs : Option Form → Label → Tree → GroundRow → Val → Type 0
ArgIs f x e r v = at_form f ((t : Ground) × (r x ≡ g_is t) × fits v t) (λ f. (r x ≡ g_absent) × ((g : LabelWords) × (said f x e ≡ Some g) × Says f x g v))

-- the slots hold the values of the arguments, in their order
abbrev pub AreArgs : Option Builtin → Props → GroundRow → Slots → Type 0
AreArgs b no_props r no_slots = Unit {0}
AreArgs b no_props r (more_slots y v slots) = ⊥
AreArgs b (more_props x e ps) r no_slots = ⊥
AreArgs b (more_props x e ps) r (more_slots y v slots) = (x ≡ y) × ArgIs (form_at b x) x e r v × AreArgs b ps r slots

-- fields are arguments without words
pub props_args : (ps : Props) (S : Scope) (r : GroundRow) → has_props ps S r → has_args ps S None r
props_args no_props S r h = tt
props_args (more_props x e ps) S r h = (h.0, props_args ps S r h.1)

pub no_words : (ps : Props) → (w : Given) × (words_of_call None ps ≡ Some w)
no_words no_props = (_, refl)
no_words (more_props x e ps) = no_words ps

pub words_behind : (f : Option Form) (x : Label) (e : Tree) (rest : Option Given) (w : Given) → and_words f x e rest ≡ Some w → (v : Given) × (rest ≡ Some v)
words_behind None x e rest w h = (w, h)
words_behind (Some f) x e rest w h = let k = first_rest (said f x e) rest w h in (k.1, k.3)

-- ---- at a label

-- there exactly where the field isn't Absent, and then of its type
abbrev pub GivenFits : GroundField → Option Val → Type 0
GivenFits g_absent None = Unit {0}
GivenFits g_absent (Some v) = ⊥
GivenFits (g_is t) None = ⊥
GivenFits (g_is t) (Some v) = fits v t

-- there, and of the field's type
abbrev pub IsThere : GroundField → Option Val → Type 0
IsThere f None = ⊥
IsThere g_absent (Some v) = ⊥
IsThere (g_is t) (Some v) = fits v t

abbrev pub GivenAt : Bool → GroundField → Option Val → Type 0
GivenAt true f o = IsThere f o
GivenAt false f o = o ≡ None

given_step : (c d : Bool) (f : GroundField) (o : Option Val) (v : Val) → GivenAt d f o → (c ≡ true → IsThere f (Some v))
    → GivenAt (if c then true else d) f (or_else o (if c then Some v else None))
given_step true d f None v h here = here refl
given_step true true f (Some w) v h here = h
given_step true false f (Some w) v h here = absurd cc
given_step false true f None v h here = h
given_step false true f (Some w) v h here = h
given_step false false f None v h here = h
given_step false false f (Some w) v h here = h

arg_given : (b : Option Builtin) (x l : Label) (e : Tree) (r : GroundRow) (v : Val) → l ≡ x → form_at b l ≡ None → ArgIs (form_at b x) x e r v → IsThere (r l) (Some v)
arg_given b x l e r v same none h =
    let k : (t : Ground) × (r x ≡ g_is t) × fits v t = subst (λ f. ArgIs f x e r v) (ap (form_at b) (sym same) ∙ none) h in
    subst (λ f. IsThere f (Some v)) (sym (ap r same ∙ k.1)) k.2

pub given_at : (b : Option Builtin) (ps : Props) (r : GroundRow) (slots : Slots) (l : Label) → form_at b l ≡ None → AreArgs b ps r slots
    → GivenAt (listed l (prop_names ps)) (r l) (look l slots)
given_at b no_props r no_slots l none h = refl
given_at b no_props r (more_slots y v slots) l none h = absurd h
given_at b (more_props x e ps) r no_slots l none h = absurd h
given_at b (more_props x e ps) r (more_slots y v slots) l none h =
    subst (λ z. GivenAt (if same_text l x then true else listed l (prop_names ps)) (r l) (or_else (look l slots) (if same_text l z then Some v else None))) h.0
    (given_step (same_text l x) (listed l (prop_names ps)) (r l) (look l slots) v (given_at b ps r slots l none h.2)
    (λ same. arg_given b x l e r v (equal_text l x (sym same)) none h.1))

given_there : (f : GroundField) (o : Option Val) → IsThere f o → GivenFits f o
given_there f None h = absurd h
given_there g_absent (Some v) h = absurd h
given_there (g_is t) (Some v) h = h

elsewhere_given : (c : Bool) (f : GroundField) (o : Option Val) → GivenAt c f o → (c ≡ false → f ≡ g_absent) → GivenFits f o
elsewhere_given true f o h rest = given_there f o h
elsewhere_given false f o h rest = subst (λ g. GivenFits g o) (sym (rest refl)) (subst (GivenFits g_absent) (sym h) tt)

-- all arguments of a call, and the words that it says
pub record IsGiven (b : Option Builtin) (ps : Props) (w : Given) (r : GroundRow) (args : Slots) : Type 0 where
  pub once : differ (prop_names ps) ≡ true
  pub words : words_of_call b ps ≡ Some w
  pub elsewhere : Elsewhere ps r (λ l. g_absent)
  pub each : AreArgs b ps r args

pub given_fits : {b : Option Builtin} {ps : Props} {w : Given} {r : GroundRow} {args : Slots} → IsGiven b ps w r args → (l : Label) → form_at b l ≡ None → GivenFits (r l) (look l args)
given_fits {b = b} {ps = ps} {r = r} {args = args} h l none =
    elsewhere_given (listed l (prop_names ps)) (r l) (look l args) (given_at b ps r args l none h.each) (h.elsewhere l)

-- ---- records

-- a field that isn't there reads as null
abbrev pub FieldAt : GroundField → Option Val → Type 0
FieldAt g_absent o = o ≡ None
FieldAt (g_is t) o = AtSlot o (typed t) (CellFits scalar.Null t)

field_in : (slots : Slots) (l : Label) (f : GroundField) → FieldAt f (look l slots) → FieldFits (look l slots) (keeps_at slots l) f
field_in slots l g_absent h = h
field_in slots l (g_is t) h = keeps_in slots l (typed t) (CellFits scalar.Null t) h

pub field_out : (slots : Slots) (l : Label) (f : GroundField) → FieldFits (look l slots) (keeps_at slots l) f → FieldAt f (look l slots)
field_out slots l g_absent h = h
field_out slots l (g_is t) h = keeps_out slots l (typed t) (CellFits scalar.Null t) h

field_there : (f : GroundField) (o older : Option Val) → IsThere f o → FieldAt f (or_else o older)
field_there f None older h = absurd h
field_there g_absent (Some v) older h = absurd h
field_there (g_is t) (Some v) older h = h

-- a field that is set, or else as before
field_step : (c : Bool) (f g : GroundField) (o older : Option Val) → GivenAt c f o → (c ≡ false → f ≡ g) → FieldAt g older → FieldAt f (or_else o older)
field_step true f g o older h rest before = field_there f o older h
field_step false f g o older h rest before =
    subst (λ p. FieldAt f (or_else p older)) (sym h) (subst (λ k. FieldAt k older) (sym (rest refl)) before)

-- the fields of a record behind those of another
pub set_fields : (ps : Props) (r q : GroundRow) (older slots : Slots) → AreArgs None ps r slots → Elsewhere ps r q → ((l : Label) → FieldAt (q l) (look l older))
    → RecordFits (joined older slots) (keeps_at (joined older slots)) (g_rec r)
set_fields ps r q older slots each rest before l =
    field_in (joined older slots) l (r l)
    (subst (FieldAt (r l)) (sym (look_joined older slots l))
    (field_step (listed l (prop_names ps)) (r l) (q l) (look l slots) (look l older) (given_at None ps r slots l refl each) (rest l) (before l)))
