-- Arguments of a call, one more at the end, as inference.
use Rattle.std.proofs.Common.{◌≡◌, ◌↔◌, refl, sym, ap, subst, ◌∙◌, ℕ, zero, suc, ◌+◌, ◌≤◌, ◌<◌, true, false, Bool, List, [], ◌∷◌, ◌++◌, map, take, length, get_or, Option, None, Some, arith}
use Rattle.std.specs.Prelude.{if◌then◌else◌, option_map}
use Rattle.std.proofs.lemmas.List.{take_more}
use mathlib.Core.Bool.{true≢false}
use Rattle.fx_base.specs.Text.{same_text}
use Rattle.fx_types.specs.Ground.{Ground, GroundField, GroundRow, g_absent, g_is, listed}
use Rattle.fx_types.specs.Instance.{Solution, ground, ground_labels, ground_pipe}
use Rattle.fx_types.specs.Shape.{term, pipe_of}
use Rattle.fx_types.specs.Term.{Label}
use Rattle.fx_types.specs.declared.term.LabelTy.{LabelTy}
use Rattle.fx_types.specs.declared.term.Ty.{Ty}
use Rattle.fx_types.proofs.Choices.{chosen, passed, by_cases, neither}
use Rattle.fx_types.proofs.Lists.{take_all}
use Rattle.fx_types.proofs.RowSums.{same_is, same_itself}
use Rattle.fx_schemes.specs.declared.form.Form.{Form}
use Rattle.fx_schemes.specs.declared.list.Builtin.{Builtin}
use Rattle.fx_schemes.specs.declared.name.BuiltinId.{BuiltinId}
use Rattle.fx_schemes.specs.Names.{IsId}
use Rattle.fx_schemes.specs.Signature.{form_of}
use Rattle.fx_schemes.specs.Builtins.{differ}
use Rattle.fx_schemes.specs.Line.{replaced, take_out, kept}
use Rattle.fx_unify.specs.declared.bindings.Bindings.{Bindings}
use Rattle.fx_unify.specs.Solutions.{next_of}
use Rattle.fx_ast.specs.declared.expr.Prop.{Prop}
use Rattle.fx_ast.specs.Shape.{OfProp, tree_of, prop, props_of}
use Rattle.fx_ast.proofs.ShapeLaws.{prop_is}
use Rattle.fx_infer.specs.declared.arguments.Argument.{Argument}
use Rattle.fx_infer.specs.declared.ask.Inferred.{Inferred}
use Rattle.fx_infer.specs.declared.scope.Name.{Name}
use Rattle.fx_infer.specs.Ask.{type_is, Scope}
use Rattle.fx_infer.specs.Callees.{arg_names, IsIdOf, Tells, ArgOf, ArgsOf, FindsArg, AreArgs, WithEntry}
use Rattle.fx_infer.specs.Environment.{scope}
use Rattle.fx_infer.specs.Infers.{Infers, HasNone}
use Rattle.fx_infer.specs.Lists.{entry_names, labels_in}
use Rattle.fx_infer.specs.Names.{env_under, NamesBelow, TypeOf}
use Rattle.fx_infer.specs.Typing.{at_form, has, has_args}
use Rattle.fx_schemes.specs.Written.{form_at}
use Rattle.fx_infer.specs.Words.{IsInForce}
use Rattle.fx_infer.proofs.DivideLaws.{new_label}
use Rattle.fx_infer.proofs.EntryLaws.{or_field, field_by, entry_more, entry_off}
use Rattle.fx_infer.proofs.InfersLaws.{Reads, both, none_second, same, seen_as}
use Rattle.fx_infer.proofs.WrittenLaws.{label_at, labels_of, labels_more}

-- labels, one more at the end

yes_or : (a b : Bool) → b ≡ true → (if a then true else b) ≡ true
yes_or true b e = refl
yes_or false b e = e

no_both : (a b : Bool) → a ≡ false → b ≡ false → (if a then true else b) ≡ false
no_both true b e f = absurd (true≢false e)
no_both false b e f = f

last_off : (l x : Label) (xs : List Label) → listed l xs ≡ false → same_text l x ≡ false → listed l (xs ++ x ∷ []) ≡ false
last_off l x [] h apart = no_both (same_text l x) false apart refl
last_off l x (y ∷ ys) h apart =
    let k : (same_text l y ≡ false) × (listed l ys ≡ false) = neither (same_text l y) (listed l ys) h in
    no_both (same_text l y) (listed l (ys ++ x ∷ [])) k.0 (last_off l x ys k.1 apart)

off_last : (l x : Label) (xs : List Label) → listed l (xs ++ x ∷ []) ≡ false → (listed l xs ≡ false) × (same_text l x ≡ false)
off_last l x [] h = (refl, (neither (same_text l x) false h).0)
off_last l x (y ∷ ys) h =
    let k : (same_text l y ≡ false) × (listed l (ys ++ x ∷ []) ≡ false) = neither (same_text l y) (listed l (ys ++ x ∷ [])) h in
    let r : (listed l ys ≡ false) × (same_text l x ≡ false) = off_last l x ys k.1 in
    (no_both (same_text l y) (listed l ys) k.0 r.0, r.1)

other_way : (x y : Label) → same_text x y ≡ false → same_text y x ≡ false
other_way x y h = by_cases (same_text y x) (λ c. absurd (true≢false (sym (ap (λ z. same_text z y) (sym (same_is y x c)) ∙ same_itself y) ∙ h))) (λ c. c)

differ_parts : (a b : Bool) → (if a then false else b) ≡ true → (a ≡ false) × (b ≡ true)
differ_parts true b e = absurd (true≢false (sym e))
differ_parts false b e = (refl, e)

differ_both : (a b : Bool) → a ≡ false → b ≡ true → (if a then false else b) ≡ true
differ_both true b e f = absurd (true≢false e)
differ_both false b e f = f

differ_last : (x : Label) (xs : List Label) → differ xs ≡ true → listed x xs ≡ false → differ (xs ++ x ∷ []) ≡ true
differ_last x [] h off = refl
differ_last x (y ∷ ys) h off =
    let k : (listed y ys ≡ false) × (differ ys ≡ true) = differ_parts (listed y ys) (differ ys) h in
    let r : (same_text x y ≡ false) × (listed x ys ≡ false) = neither (same_text x y) (listed x ys) off in
    differ_both (listed y (ys ++ x ∷ [])) (differ (ys ++ x ∷ [])) (last_off y x ys k.0 (other_way x y r.0)) (differ_last x ys k.1 r.1)

apart_from : (l x : Label) (xs : List Label) → listed l xs ≡ true → listed x xs ≡ false → same_text l x ≡ false
apart_from l x xs there off = by_cases (same_text l x) (λ c. absurd (true≢false (sym there ∙ ap (λ z. listed z xs) (same_is l x c) ∙ off))) (λ c. c)

-- one argument

abbrev OneArg : Option Builtin → Scope → OfProp → GroundField → Type 0
OneArg b S o f = at_form (form_at b o.label) ((u : Ground) × (f ≡ g_is u) × has o.value S (type_is u)) (λ form. (f ≡ g_absent) × IsInForce form o.value S)

args_last : (S : Scope) (b : Option Builtin) (r : GroundRow) (ps : List Prop) (p : Prop) → has_args (props_of (map prop (ps ++ p ∷ []))) S b r ↔ (has_args (props_of (map prop ps)) S b r × OneArg b S (prop p) (r (prop p).label))
args_last S b r [] p = (λ h. (tt, h.0), λ h. (h.1, tt))
args_last S b r (q ∷ ps) p =
    let k : has_args (props_of (map prop (ps ++ p ∷ []))) S b r ↔ (has_args (props_of (map prop ps)) S b r × OneArg b S (prop p) (r (prop p).label)) = args_last S b r ps p in
    (λ h. ((h.0, (k.0 h.1).0), (k.0 h.1).1), λ h. (h.0.0, k.1 (h.0.1, h.1)))

-- arguments say nothing of other labels
args_along : (S : Scope) (b : Option Builtin) (r q : GroundRow) (ps : List Prop) → ((l : Label) → listed l (labels_of ps) ≡ true → r l ≡ q l) → has_args (props_of (map prop ps)) S b r → has_args (props_of (map prop ps)) S b q
args_along S b r q [] same h = tt
args_along S b r q (p ∷ ps) same h = (
  subst (OneArg b S (prop p)) (same (prop p).label (chosen (same_text (prop p).label (prop p).label) true (listed (prop p).label (labels_of ps)) (same_itself (prop p).label))) h.0,
  args_along S b r q ps (λ l there. same l (yes_or (same_text l (prop p).label) (listed l (labels_of ps)) there)) h.1,
)

module _ (b : Option Builtin) (ns : List Name) where
  arg_is : (p : Prop) (s : Solution) (r : GroundRow) → OneArg b (scope (env_under s ns)) (prop p) (r (prop p).label) ≡ ArgOf b ns p s (r p.label)
  arg_is p s r = λ i. OneArg b (scope (env_under s ns)) (prop_is p i) (r (prop_is p i).label)

  module _ (ps : List Prop) (p : Prop) (off : listed p.label (labels_of ps) ≡ false) (s : Solution) where
    join : (q : GroundRow) (f : GroundField) → ArgsOf b ns ps s q → ArgOf b ns p s f → ArgsOf b ns (ps ++ p ∷ []) s (replaced p.label f q)
    join q f h a =
        let there : replaced p.label f q p.label ≡ f = chosen (same_text p.label p.label) f (q p.label) (same_itself p.label) in (
          (args_last (scope (env_under s ns)) b (replaced p.label f q) ps p).1 (
            args_along (scope (env_under s ns)) b q (replaced p.label f q) ps (λ l at. sym (passed (same_text l p.label) f (q l) (apart_from l p.label (labels_of ps) at off))) h.0,
            subst (λ A. A) (sym (arg_is p s (replaced p.label f q))) (subst (ArgOf b ns p s) (sym there) a),
          ),
          λ l out.
              (let k : (listed l (labels_of ps) ≡ false) × (same_text l p.label ≡ false) = off_last l p.label (labels_of ps) (sym (ap (listed l) (labels_more ps p)) ∙ out) in
              passed (same_text l p.label) f (q l) k.1 ∙ h.1 l k.0),
        )

    part : (r : GroundRow) → ArgsOf b ns (ps ++ p ∷ []) s r → ArgsOf b ns ps s (take_out p.label r) × ArgOf b ns p s (r p.label)
    part r h =
        let k = (args_last (scope (env_under s ns)) b r ps p).0 h.0 in (
          (
            args_along (scope (env_under s ns)) b r (take_out p.label r) ps (λ l at. sym (passed (same_text l p.label) g_absent (r l) (apart_from l p.label (labels_of ps) at off))) k.0,
            λ l out.
                by_cases (same_text l p.label) (λ c. chosen (same_text l p.label) g_absent (r l) c)
                (λ c. passed (same_text l p.label) g_absent (r l) c ∙ h.1 l (ap (listed l) (labels_more ps p) ∙ last_off l p.label (labels_of ps) out c)),
          ),
          subst (λ A. A) (arg_is p s r) k.1,
        )

    back_at : (r : GroundRow) (l : Label) → replaced p.label (r p.label) (take_out p.label r) l ≡ r l
    back_at r l =
        by_cases (same_text l p.label) (λ c. chosen (same_text l p.label) (r p.label) (take_out p.label r l) c ∙ ap r (sym (same_is l p.label c)))
        (λ c. passed (same_text l p.label) (r p.label) (take_out p.label r l) c ∙ passed (same_text l p.label) g_absent (r l) c)

    back : (r : GroundRow) → replaced p.label (r p.label) (take_out p.label r) ≡ r
    back r = λ i l. back_at r l i

  arg_reads : (n : ℕ) (p : Prop) → NamesBelow n ns → Reads n (ArgOf b ns p)
  arg_reads n p below = λ s q agree f h. subst (λ env. OneArg b (scope env) (record { label = p.label; value = tree_of p.value }) f) (below s q agree) h

  args_grow : (ps : List Prop) (p : Prop) (old now new : Bindings) (f : Solution → GroundRow) (g : Solution → GroundField) → NamesBelow (next_of old) ns → listed p.label (labels_of ps) ≡ false
      → Infers (ArgsOf b ns ps) old now f → Infers (ArgOf b ns p) now new g → Infers (ArgsOf b ns (ps ++ p ∷ [])) old new (λ s. replaced p.label (g s) (f s))
  args_grow ps p old now new f g below off one two =
      seen_as (λ s x. ArgsOf b ns ps s x.0 × ArgOf b ns p s x.1) (ArgsOf b ns (ps ++ p ∷ [])) (λ s x. replaced p.label x.1 x.0) old new (λ s. (f s, g s))
      (both (ArgsOf b ns ps) (λ r. ArgOf b ns p) old now new f g one two (λ r. arg_reads (next_of old) p below))
      (λ s q agree x. refl) (λ s x h. join ps p off s x.0 x.1 h.0 h.1) (λ s r h. (let k = part ps p off s r h in ((take_out p.label r, r p.label), k, back ps p off s r)))

  -- an argument that has nothing
  args_part : (S : Scope) (r : GroundRow) (ps : List Prop) (i : ℕ) → has_args (props_of (map prop ps)) S b r → has_args (props_of (map prop (take i ps))) S b r
  args_part S r ps zero h = tt
  args_part S r [] (suc i) h = tt
  args_part S r (p ∷ ps) (suc i) h = (h.0, args_part S r ps i h.1)

  pub no_arg : (ps : List Prop) (i : ℕ) (p : Prop) (old now : Bindings) (f : Solution → GroundRow) → i < length ps → p ≡ get_or ps i p → NamesBelow (next_of old) ns
      → Infers (ArgsOf b ns (take i ps)) old now f → HasNone (ArgOf b ns p) now → HasNone (ArgsOf b ns ps) old
  no_arg ps i p old now f lt at below one none = λ s h within r c.
      (let next : take (i + 1) ps ≡ take i ps ++ p ∷ [] = take_more ps i p lt ∙ ap (λ d. take i ps ++ d ∷ []) (sym at) in
      let parts = (args_last (scope (env_under s ns)) b r (take i ps) p).0 (subst (λ qs. has_args (props_of (map prop qs)) (scope (env_under s ns)) b r) next (args_part (scope (env_under s ns)) r ps (i + 1) c.0)) in
      let few : GroundRow = kept (labels_of (take i ps)) r g_absent in
      none_second (ArgsOf b ns (take i ps)) (λ q. ArgOf b ns p) old now now f (λ q. g_absent) one none (λ q. arg_reads (next_of old) p below) s h within (few, r p.label) (
        (
          args_along (scope (env_under s ns)) b r few (take i ps) (λ l there. sym (chosen (listed l (labels_of (take i ps))) (r l) g_absent there)) parts.0,
          λ l out. passed (listed l (labels_of (take i ps))) (r l) g_absent out,
        ),
        subst (λ A. A) (arg_is p s r) parts.1,
      ))

  -- one argument more

  row_with : (es more : List LabelTy) (x : Label) (o : Option Ty) → WithEntry es x o more → listed x (entry_names es) ≡ false → (s : Solution) (l : Label)
      → replaced x (ground_pipe s (pipe_of (option_map term o))) (ground_labels s (labels_in es)) l ≡ ground_labels s (labels_in more) l
  row_with es more x None pushed off s l =
      by_cases (same_text l x)
      (λ c. chosen (same_text l x) g_absent (ground_labels s (labels_in es) l) c ∙ sym (ap (ground_labels s (labels_in es)) (same_is l x c) ∙ entry_off s es x off))
      (λ c. passed (same_text l x) g_absent (ground_labels s (labels_in es) l) c) ∙ ap (λ ds. ground_labels s (labels_in ds) l) (sym pushed)
  row_with es more x (Some t) pushed off s l =
      by_cases (same_text l x)
      (λ c. chosen (same_text l x) (g_is (ground s (term t))) (ground_labels s (labels_in es) l) c
      ∙ sym ((λ i. or_field ((ap (ground_labels s (labels_in es)) (same_is l x c) ∙ entry_off s es x off) i) (field_by l x (ground s (term t)))) ∙ chosen (same_text l x) (g_is (ground s (term t))) g_absent c))
      (λ c. passed (same_text l x) (g_is (ground s (term t))) (ground_labels s (labels_in es) l) c
      ∙ sym (ap (or_field (ground_labels s (labels_in es) l)) (passed (same_text l x) (g_is (ground s (term t))) g_absent c) ∙ or_nothing (ground_labels s (labels_in es) l)))
      ∙ sym (entry_more s es (record { label = x; ty = t }) l) ∙ ap (λ ds. ground_labels s (labels_in ds) l) (sym pushed)
    where
      or_nothing : (a : GroundField) → or_field a g_absent ≡ a
      or_nothing (g_is u) = refl
      or_nothing g_absent = refl

  names_last : (es : List LabelTy) (e : LabelTy) → entry_names (es ++ e ∷ []) ≡ entry_names es ++ e.label ∷ []
  names_last [] e = refl
  names_last (d ∷ es) e = ap (λ xs. d.label ∷ xs) (names_last es e)

  still_among : (es more : List LabelTy) (x l : Label) (o : Option Ty) → WithEntry es x o more → listed l (entry_names es) ≡ false → same_text l x ≡ false → listed l (entry_names more) ≡ false
  still_among es more x l None pushed off apart = ap (λ ds. listed l (entry_names ds)) pushed ∙ off
  still_among es more x l (Some t) pushed off apart = ap (λ ds. listed l (entry_names ds)) pushed ∙ ap (listed l) (names_last es (record { label = x; ty = t })) ∙ last_off l x (entry_names es) off apart

  still_once : (es more : List LabelTy) (x : Label) (o : Option Ty) → WithEntry es x o more → listed x (entry_names es) ≡ false → differ (entry_names es) ≡ true → differ (entry_names more) ≡ true
  still_once es more x None pushed off once = ap (λ ds. differ (entry_names ds)) pushed ∙ once
  still_once es more x (Some t) pushed off once = ap (λ ds. differ (entry_names ds)) pushed ∙ ap differ (names_last es (record { label = x; ty = t })) ∙ differ_last x (entry_names es) once off

  pub args_more : (ps : List Prop) (i : ℕ) (p : Prop) (old now new : Bindings) (es more : List LabelTy) (o : Option Ty) → i < length ps → p ≡ get_or ps i p → listed p.label (labels_of (take i ps)) ≡ false
      → NamesBelow (next_of old) ns → AreArgs b ns (take i ps) old now es → Infers (ArgOf b ns p) now new (λ s. ground_pipe s (pipe_of (option_map term o))) → WithEntry es p.label o more
      → AreArgs b ns (take (i + 1) ps) old new more
  args_more ps i p old now new es more o lt at off below before one pushed =
      subst (λ qs. AreArgs b ns qs old new more) (sym (take_more ps i p lt ∙ ap (λ d. take i ps ++ d ∷ []) (sym at)))
      (record {
        found = subst (Infers (ArgsOf b ns (take i ps ++ p ∷ [])) old new) (λ j s l. row_with es more p.label o pushed (before.among p.label off) s l j)
            (args_grow (take i ps) p old now new (λ s. ground_labels s (labels_in es)) (λ s. ground_pipe s (pipe_of (option_map term o))) below off before.found one);
        among = λ l out.
            (let k : (listed l (labels_of (take i ps)) ≡ false) × (same_text l p.label ≡ false) = off_last l p.label (labels_of (take i ps)) (sym (ap (listed l) (labels_more (take i ps) p)) ∙ out) in
            still_among es more p.label l o pushed (before.among l k.0) k.1);
        once = still_once es more p.label o pushed (before.among p.label off) before.once;
      })

  pub args_start : (ps : List Prop) (old : Bindings) (es : List LabelTy) → es ≡ [] → AreArgs b ns (take 0 ps) old old es
  args_start ps old es none =
      subst (AreArgs b ns (take 0 ps) old old) (sym none)
      (record {
        found = same (ArgsOf b ns (take 0 ps)) old (λ l. g_absent) (λ s. (tt, λ l out. refl)) (λ s r h. λ i l. sym (h.1 l refl) i);
        among = λ l out. refl;
        once = refl;
      })

  pub args_all : (ps : List Prop) (i : ℕ) (old now : Bindings) (es : List LabelTy) → length ps ≤ i → AreArgs b ns (take i ps) old now es → AreArgs b ns ps old now es
  args_all ps i old now es le h = subst (λ qs. AreArgs b ns qs old now es) (take_all ps i le) h

  -- an argument with a type

  pub typed_arg : (p : Prop) (old new : Bindings) (f : Solution → Ground) → form_at b p.label ≡ None → Infers (TypeOf ns p.value) old new f → Infers (ArgOf b ns p) old new (λ s. g_is (f s))
  typed_arg p old new f none h =
      subst (λ o. Infers (λ s g. at_form o ((u : Ground) × (g ≡ g_is u) × TypeOf ns p.value s u) (λ form. (g ≡ g_absent) × IsInForce form (tree_of p.value) (scope (env_under s ns)))) old new (λ s. g_is (f s))) (sym none)
      (seen_as (TypeOf ns p.value) (λ s g. (u : Ground) × (g ≡ g_is u) × TypeOf ns p.value s u) (λ s u. g_is u) old new f h (λ s q agree u. refl) (λ s u k. (u, refl, k)) (λ s g k. (k.0, k.2, sym k.1)))

  pub no_typed_arg : (p : Prop) (old : Bindings) → form_at b p.label ≡ None → HasNone (TypeOf ns p.value) old → HasNone (ArgOf b ns p) old
  no_typed_arg p old none h =
      subst (λ o. HasNone (λ s g. at_form o ((u : Ground) × (g ≡ g_is u) × TypeOf ns p.value s u) (λ form. (g ≡ g_absent) × IsInForce form (tree_of p.value) (scope (env_under s ns)))) old) (sym none)
      (λ s k within g c. h s k within c.0 c.2)

-- each label is new

labels_take : (ps : List Prop) (i : ℕ) → labels_of (take i ps) ≡ take i (labels_of ps)
labels_take ps zero = refl
labels_take [] (suc i) = refl
labels_take (p ∷ ps) (suc i) = ap (λ xs. (prop p).label ∷ xs) (labels_take ps i)

labels_length : (ps : List Prop) → length (labels_of ps) ≡ length ps
labels_length [] = refl
labels_length (p ∷ ps) = ap suc (labels_length ps)

labels_at : (ps : List Prop) (i : ℕ) (p : Prop) → i < length ps → p ≡ get_or ps i p → p.label ≡ get_or (labels_of ps) i p.label
labels_at [] i p lt at = absurd (omega arith)
labels_at (q ∷ ps) zero p lt at = ap (λ x. x.label) at ∙ sym (label_at q)
labels_at (q ∷ ps) (suc i) p lt at = labels_at ps i p (omega arith) at

pub new_arg : (ps : List Prop) (i : ℕ) (p : Prop) → differ (labels_of ps) ≡ true → i < length ps → p ≡ get_or ps i p → listed p.label (labels_of (take i ps)) ≡ false
new_arg ps i p once lt at =
    let many : length (labels_of ps) ≡ length ps = labels_length ps in
    ap (listed p.label) (labels_take ps i) ∙ new_label (labels_of ps) i p.label once (omega arith) (labels_at ps i p lt at)

-- an argument that says words

pub said_found : (P : Solution → Type 0) (b : Bindings) (r : Bool) → r ≡ true → Tells r P → Infers (λ s f. (f ≡ g_absent) × P s) b b (λ s. g_absent)
said_found P b true e h = same (λ s f. (f ≡ g_absent) × P s) b g_absent (λ s. (refl, h s)) (λ s f k. sym k.0)
said_found P b false e h = absurd (true≢false (sym e))

pub said_none : (P : Solution → Type 0) (b : Bindings) (r : Bool) → r ≡ false → Tells r P → HasNone (λ s f. (f ≡ g_absent) × P s) b
said_none P b true e h = absurd (true≢false e)
said_none P b false e h = λ s k within f c. h s c.1

-- forms of label arguments, where the call may be of no built-in

pub known_id : (o : Option BuiltinId) (id : BuiltinId) → o ≡ Some id → (b : Option Builtin) × IsIdOf o b → (b : Builtin) × IsId id b
known_id None id e h = absurd cc
known_id (Some i) id e (None, h) = absurd h
known_id (Some i) id e (Some b, h) = (b, let is : i ≡ id = cc in subst (λ j. IsId j b) is h)

pub form_of_id : (o : Option BuiltinId) (id : BuiltinId) (x : Label) (r : Option Form) → o ≡ Some id → ((b : Builtin) → IsId id b → r ≡ form_of b x) → (b : Option Builtin) → IsIdOf o b → r ≡ form_at b x
form_of_id None id x r e h b is = absurd cc
form_of_id (Some i) id x r e h None is = absurd is
form_of_id (Some i) id x r e h (Some b) is = h b (let j : i ≡ id = cc in subst (λ k. IsId k b) j is)

pub form_of_none : (o : Option BuiltinId) (x : Label) → o ≡ None → (b : Option Builtin) → IsIdOf o b → None ≡ form_at b x
form_of_none None x e None is = refl
form_of_none None x e (Some b) is = absurd is
form_of_none (Some i) x e b is = absurd cc

-- an argument by what was found of it
pub said_arg : (b : Option Builtin) (ns : List Name) (p : Prop) (old : Bindings) (form : Form) (o : Option Argument) → form_at b p.label ≡ Some form
    → FindsArg (λ s f. (f ≡ g_absent) × IsInForce form (tree_of p.value) (scope (env_under s ns))) old o → FindsArg (ArgOf b ns p) old o
said_arg b ns p old form None is none =
    subst (λ w. HasNone (λ s g. at_form w ((u : Ground) × (g ≡ g_is u) × TypeOf ns p.value s u) (λ fm. (g ≡ g_absent) × IsInForce fm (tree_of p.value) (scope (env_under s ns)))) old) (sym is) none
said_arg b ns p old form (Some a) is found =
    subst (λ w. Infers (λ s g. at_form w ((u : Ground) × (g ≡ g_is u) × TypeOf ns p.value s u) (λ fm. (g ≡ g_absent) × IsInForce fm (tree_of p.value) (scope (env_under s ns)))) old a.bindings (λ s. ground_pipe s (pipe_of (option_map term a.ty))))
    (sym is) found

pub typed_found : (b : Option Builtin) (ns : List Name) (p : Prop) (old : Bindings) (x : Inferred) (a : Argument) → a.bindings ≡ x.bindings → a.ty ≡ Some x.ty → form_at b p.label ≡ None → Infers (TypeOf ns p.value) old x.bindings (λ s. ground s (term x.ty))
    → FindsArg (ArgOf b ns p) old (Some a)
typed_found b ns p old x a bindings ty none h =
    subst (λ o. Infers (ArgOf b ns p) old a.bindings (λ s. ground_pipe s (pipe_of (option_map term o)))) (sym ty)
    (subst (λ n. Infers (ArgOf b ns p) old n (λ s. g_is (ground s (term x.ty)))) (sym bindings) (typed_arg b ns p old x.bindings (λ s. ground s (term x.ty)) none h))

-- the labels of arguments, as code sees them
pub once_is : (ps : List Prop) (r : Bool) → r ≡ differ (arg_names ps) → differ (labels_of ps) ≡ r
once_is ps r h = ap differ (plain_names ps) ∙ sym h
  where
    plain_names : (qs : List Prop) → labels_of qs ≡ arg_names qs
    plain_names [] = refl
    plain_names (q ∷ qs) = (λ i. label_at q i ∷ plain_names qs i)
