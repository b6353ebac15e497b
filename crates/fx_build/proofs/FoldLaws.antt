-- The words of a call are said by the values of its arguments.
use Rattle.std.proofs.Common.{◌≡◌, refl, sym, ap, subst, ◌∙◌, ◌||◌, Bool, true, false, List, [], ◌∷◌, Some, None}
use Rattle.std.specs.Prelude.{if◌then◌else◌, Option, IsSome, codes}
use Rattle.std.specs.Cmp.{Equal-is}
use Rattle.std.proofs.lemmas.Bool.{or_left, or_right}
use Rattle.std.proofs.lemmas.Cmp.{nat_list_eq_equiv}
use Rattle.std.specs.Cmp.Lexicographic.{same_text as equal_text}
use mathlib.Core.Bool.{true≢false, false≢true}
use Rattle.fx_base.specs.Text.{same_text, text_cmp}
use Rattle.fx_types.specs.Ground.{GroundRow, listed}
use Rattle.fx_schemes.specs.Builtins.{Folds, IsLine, OfWindows, differ}
use Rattle.fx_schemes.specs.Given.{Given, IsWord, one_of, text_at, words_at}
use Rattle.fx_schemes.specs.Line.{Line}
use Rattle.fx_schemes.specs.Signature.{form_in, forms_of}
use Rattle.fx_schemes.specs.declared.form.Form.{Form}
use Rattle.fx_ast.specs.Tree.{Tree, Props, no_props, more_props}
use Rattle.fx_meaning.specs.Value.{Val, Slots, no_slots, more_slots}
use Rattle.fx_infer.specs.Parameters.{prop_names}
use Rattle.fx_schemes.specs.Written.{form_at, with_first, words_at_label}
use Rattle.fx_infer.specs.Words.{and_words, said, words_of_call}
use Rattle.fx_plan.specs.Said.{and_says, said_in, value_says}
use Rattle.fx_build.proofs.ArgLaws.{ArgIs, AreArgs, IsGiven, words_behind}
use Rattle.fx_build.proofs.ParamLaws.{parts_of}
use Rattle.fx_build.proofs.WordLaws.{Says, first_rest}
use Rattle.std.specs.Ordering.{is_eq}
use Rattle.fx_table.specs.CaseTable.{value_at}
use Rattle.fx_types.specs.Term.{Label}
use Rattle.fx_types.proofs.Choices.{by_cases, chosen, either_also, passed}
use Rattle.fx_value.proofs.Rows.{text_same}
use Rattle.fx_schemes.specs.Folds.{fold_of, folds}
use Rattle.fx_schemes.specs.Names.{builtin_of, stream_of, streams}
use Rattle.fx_schemes.specs.declared.form.Form.TheVariants as form
use Rattle.fx_schemes.specs.declared.given.LabelWords.{LabelWords}
use Rattle.fx_schemes.specs.declared.list.Builtin.{Builtin}
use Rattle.fx_schemes.specs.declared.list.Builtin.TheVariants as b
use Rattle.fx_meaning.specs.Native.{built_of, value_of}

abbrev EachKey : {V : Type 0} → (Label → Type 0) → List (Label × V) → Type 0
EachKey P [] = Unit {0}
EachKey P (row ∷ rows) = P row.0 × EachKey P rows

key_of : {V : Type 0} (P : Label → Type 0) (rows : List (Label × V)) (y : Label) → EachKey P rows → IsSome (value_at text_cmp y rows) → P y
key_of P [] y each h = absurd cc
key_of P (row ∷ rows) y each h =
    by_cases (is_eq (text_cmp row.0 y)) (λ e. subst P (text_same row.0 y ((Equal-is _).0 e)) each.0)
    (λ e. key_of P rows y each.1 (subst (λ o. IsSome o) (passed (is_eq (text_cmp row.0 y)) (Some row.1) (value_at text_cmp y rows) e) h))

-- the value of the name of a function that windows take says the name
abbrev pub SaysName : Label → Label → Type 0
SaysName l y = (x : Builtin) → builtin_of (codes "") y ≡ Some x → value_says form.Name l (value_of (built_of x)) ≡ Some (words_at_label l (y ∷ []) [])

at_key : (l y : Label) (x : Builtin) → builtin_of (codes "") y ≡ Some x → value_says form.Name l (value_of (built_of x)) ≡ Some (words_at_label l (y ∷ []) []) → SaysName l y
at_key l y x is says z e =
    let same : x ≡ z = cc in subst (λ k. value_says form.Name l (value_of (built_of k)) ≡ Some (words_at_label l (y ∷ []) [])) same says

pub fold_says : (l y : Label) → IsSome (fold_of y) → SaysName l y
unfolding fold_of folds stream_of streams
fold_says l y h =
    key_of (SaysName l) folds y (
      at_key l (codes "count") b.Count refl refl,
      (at_key l (codes "first") b.First refl refl, (at_key l (codes "last") b.Last refl refl, (at_key l (codes "max") b.Max refl refl, (at_key l (codes "min") b.Min refl refl, (at_key l (codes "spread") b.Spread refl refl, (at_key l (codes "sum") b.Sum refl refl, tt)))))),
    )
    h

-- ---- what the arguments say

-- the name of an argument that is one says itself
abbrev IsKnown : Option Form → Label → Tree → Type 0
IsKnown f x e = (y : Label) → f ≡ Some form.Name → said form.Name x e ≡ Some (words_at_label x (y ∷ []) []) → SaysName x y

says_it : (f : Form) (x : Label) (e : Tree) (g : LabelWords) (v : Val) → Says f x g v → said f x e ≡ Some g → IsKnown (Some f) x e → value_says f x v ≡ Some g
says_it form.Text x e g v says is known = says
says_it form.Listed x e g v says is known = says
says_it form.Texts x e g v says is known = says
says_it form.Renames x e g v says is known = says
says_it form.Name x e g v says is known =
    subst (λ u. value_says form.Name x u ≡ Some g) (sym says.4) (known says.0 refl (is ∙ ap Some (sym says.2)) says.1 says.3 ∙ ap Some says.2)

argument_says : (f : Option Form) (x : Label) (e : Tree) (r : GroundRow) (v : Val) (written spoken : Option Given) (w : Given) → ArgIs f x e r v → and_words f x e written ≡ Some w
    → ((rest : Given) → written ≡ Some rest → spoken ≡ Some rest) → IsKnown f x e → and_says f x v spoken ≡ Some w
argument_says None x e r v written spoken w h words rest known = rest w words
argument_says (Some f) x e r v written spoken w h words rest known =
    let k = first_rest (said f x e) written w words in
    let same : h.1.0 ≡ k.0 = (let both : Some h.1.0 ≡ Some k.0 = sym h.1.1 ∙ k.2 in cc) in
    ap (λ o. with_first o spoken) (says_it f x e h.1.0 v h.1.2 h.1.1 known) ∙ ap (with_first (Some h.1.0)) (rest k.1 k.3) ∙ ap (λ g. Some (g ∷ k.1)) same ∙ ap Some k.4

abbrev AreKnown : Option Builtin → Props → Type 0
AreKnown b no_props = Unit {0}
AreKnown b (more_props x e ps) = IsKnown (form_at b x) x e × AreKnown b ps

arguments_say : (b : Option Builtin) (ps : Props) (r : GroundRow) (args : Slots) (w : Given) → AreArgs b ps r args → words_of_call b ps ≡ Some w → AreKnown b ps → said_in b args ≡ Some w
arguments_say b no_props r no_slots w h words known = words
arguments_say b no_props r (more_slots y v args) w h words known = absurd h
arguments_say b (more_props x e ps) r no_slots w h words known = absurd h
arguments_say b (more_props x e ps) r (more_slots y v args) w h words known =
    subst (λ z. and_says (form_at b z) z v (said_in b args) ≡ Some w) h.0
    (argument_says (form_at b x) x e r v (words_of_call b ps) (said_in b args) w h.1 words (λ rest k. arguments_say b ps r args rest h.2 k known.1) known.0)

-- ---- only windows take a function by its name

abbrev is_by_name : Form → Bool
is_by_name form.Name = true
is_by_name _ = false

abbrev has_name : List (Label × Form) → Bool
has_name [] = false
has_name (e ∷ es) = is_by_name e.1 || has_name es

name_there : (es : List (Label × Form)) (l : Label) → form_in l es ≡ Some form.Name → has_name es ≡ true
name_there [] l h = absurd cc
name_there (e ∷ es) l h =
    by_cases (same_text l e.0)
    (λ same. (let is : e.1 ≡ form.Name = (let both : Some e.1 ≡ Some form.Name = sym (chosen (same_text l e.0) (Some e.1) (form_in l es) same) ∙ h in cc) in or_left (is_by_name e.1) (has_name es) (ap is_by_name is)))
    (λ other. or_right (is_by_name e.1) (has_name es) (name_there es l (sym (passed (same_text l e.0) (Some e.1) (form_in l es) other) ∙ h)))

only_windows : (x : Builtin) → has_name (forms_of x) ≡ true → x ≡ b.AggregateWindow
only_windows b.AggregateWindow h = refl
only_windows b.From h = absurd (false≢true h)
only_windows _ h = absurd (false≢true h)

none_known : (x : Builtin) (ps : Props) → has_name (forms_of x) ≡ false → AreKnown (Some x) ps
none_known x no_props other = tt
none_known x (more_props l e ps) other = (λ y is says. absurd (true≢false (sym (name_there (forms_of x) l is) ∙ other)), none_known x ps other)

abbrev fn : Label
fn = codes "fn"

abbrev windows : Option Builtin
windows = Some b.AggregateWindow

same_fn : (l : Label) → form_at windows l ≡ Some form.Name → same_text l fn ≡ true
same_fn l h = by_cases (same_text l fn) (λ e. e) (λ e. absurd (none_some (sym (passed (same_text l fn) (Some form.Name) None e) ∙ h)))
  where
    none_some : None ≡ Some form.Name → ⊥
    none_some e = cc

head_word : (l : Label) (e : Tree) (y f : Label) (rest : Option Given) (w : Given) → same_text fn l ≡ true → with_first (said form.Name l e) rest ≡ Some w
    → said form.Name l e ≡ Some (words_at_label l (y ∷ []) []) → IsWord w fn f → y ≡ f
unfolding text_at
head_word l e y f rest w same words says is =
    let k = first_rest (said form.Name l e) rest w words in
    let g : k.0 ≡ words_at_label l (y ∷ []) [] = (let both : Some k.0 ≡ Some (words_at_label l (y ∷ []) []) = sym k.2 ∙ says in cc) in
    let at : IsWord (words_at_label l (y ∷ []) [] ∷ k.1) fn f = subst (λ u. IsWord u fn f) (sym k.4 ∙ ap (λ z. z ∷ k.1) g) is in
    let first : Some y ≡ Some f = subst (λ c. one_of (if c then Some (words_at_label l (y ∷ []) []) else words_at k.1 fn) None ≡ Some f) same at in cc

tail_word : (l : Label) (e : Tree) (ps : Props) (w v : Given) (f : Label) → listed l (prop_names ps) ≡ false → and_words (form_at windows l) l e (words_of_call windows ps) ≡ Some w
    → words_of_call windows ps ≡ Some v → (listed fn (l ∷ prop_names ps) ≡ true → IsWord w fn f) → listed fn (prop_names ps) ≡ true → IsWord v fn f
tail_word l e ps w v f fresh words is word there =
    by_cases (same_text l fn)
    (λ same. absurd (true≢false (sym there ∙ subst (λ z. listed z (prop_names ps) ≡ false) (equal_text l fn (sym same)) fresh)))
    (λ other.
    (let none : form_at windows l ≡ None = passed (same_text l fn) (Some form.Name) None other in
    let whole : words_of_call windows ps ≡ Some w = subst (λ o. and_words o l e (words_of_call windows ps) ≡ Some w) none words in
    let same : w ≡ v = (let both : Some w ≡ Some v = sym whole ∙ is in cc) in
    subst (λ u. IsWord u fn f) same (word (either_also (same_text fn l) (listed fn (prop_names ps)) there))))

windows_known : (ps : Props) (w : Given) (f : Label) → differ (prop_names ps) ≡ true → words_of_call windows ps ≡ Some w
    → (listed fn (prop_names ps) ≡ true → IsWord w fn f) → IsSome (fold_of f) → AreKnown windows ps
windows_known no_props w f once words word fold = tt
windows_known (more_props l e ps) w f once words word fold =
    let fresh = parts_of (listed l (prop_names ps)) (differ (prop_names ps)) once in
    let rest = words_behind (form_at windows l) l e (words_of_call windows ps) w words in (
      λ y is says.
          (let same : same_text fn l ≡ true = nat_list_eq_equiv.symm fn l ∙ same_fn l is in
          let same_word : y ≡ f =
          head_word l e y f (words_of_call windows ps) w same (subst (λ o. and_words o l e (words_of_call windows ps) ≡ Some w) is words) says
          (word (chosen (same_text fn l) true (listed fn (prop_names ps)) same)) in
          fold_says l y (subst (λ z. IsSome (fold_of z)) (sym same_word) fold)),
      windows_known ps rest.0 f fresh.1 rest.1 (tail_word l e ps w rest.0 f fresh.0 words rest.1 word) fold,
    )

some_fold : (y : Label) (L : Line) → OfWindows (Folds (fold_of y)) L → IsSome (fold_of y)
some_fold y L = elim (fold_of y) as (λ o. OfWindows (Folds o) L → IsSome o) [ None ↦ λ h. absurd h.3 | Some z ↦ λ h. refl ]

windows_say : (w : Given) (L : Line) (ps : Props) → IsLine b.AggregateWindow w L → differ (prop_names ps) ≡ true → words_of_call windows ps ≡ Some w → AreKnown windows ps
unfolding IsLine
windows_say w L ps h once words = windows_known ps w h.0 once words (λ there. h.1) (some_fold h.0 L h.2)

-- the values of a call's label arguments say the words of the call
pub words_said : (x : Builtin) (w : Given) (L : Line) (ps : Props) (r : GroundRow) (args : Slots) → IsLine x w L → IsGiven (Some x) ps w r args → said_in (Some x) args ≡ Some w
words_said x w L ps r args line given = arguments_say (Some x) ps r args w given.each given.words (by_cases (has_name (forms_of x)) by_name (none_known x ps))
  where
    by_name : has_name (forms_of x) ≡ true → AreKnown (Some x) ps
    by_name h =
        let is : x ≡ b.AggregateWindow = only_windows x h in
        subst (λ y. AreKnown (Some y) ps) (sym is)
        (windows_say w L ps (subst (λ y. IsLine y w L) is line) given.once (subst (λ y. words_of_call (Some y) ps ≡ Some w) is given.words))
