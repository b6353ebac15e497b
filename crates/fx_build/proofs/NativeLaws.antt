-- Built-ins as what is called: their labels, words and pipes.
use Rattle.std.proofs.Common.{◌≡◌, refl, sym, ap, subst, ◌∙◌, Bool, true, false, ◌&&◌, not, List, [], ◌∷◌, Some, None, is_none}
use Rattle.std.specs.Prelude.{Option}
use Rattle.std.proofs.lemmas.Bool.{and_parts}
use Rattle.std.specs.Cmp.Lexicographic.{same_text as equal_text}
use mathlib.Core.Bool.{true≢false, false≢true}
use Rattle.fx_base.specs.Text.{same_text}
use Rattle.fx_types.specs.Term.{Label}
use Rattle.fx_types.specs.Ground.{Ground, GroundField, GroundRow, g_fun, g_absent, g_is, listed}
use Rattle.fx_types.proofs.Choices.{by_cases, passed}
use Rattle.fx_schemes.proofs.SignatureLaws.{line_signature}
use Rattle.fx_schemes.specs.Builtins.{IsLine}
use Rattle.fx_schemes.specs.Given.{Given}
use Rattle.fx_schemes.specs.Line.{Line}
use Rattle.fx_schemes.specs.Signature.{Signature, IsFunctionOf, HasSignature, IsPiped, form_in, form_of, forms_of, is_present, optional_of, pipe_label_of, required_of, signature_of, signature_or_nothing}
use Rattle.fx_schemes.specs.declared.form.Form.{Form}
use Rattle.fx_schemes.specs.declared.list.Builtin.{Builtin}
use Rattle.fx_schemes.specs.declared.list.Builtin.TheVariants as b
use Rattle.fx_meaning.specs.Value.{Val, Slots, no_slots, more_slots, look, is_there}
use Rattle.fx_build.specs.Fit.{with_input}
use Rattle.fx_plan.specs.Said.{and_says, said_in}
use Rattle.fx_build.proofs.ParamLaws.{Suits, absent_suits, all_pass, passes}

-- ---- no label of a line is another one

abbrev pub is_pipe : Option Label → Label → Bool
is_pipe None l = false
is_pipe (Some x) l = same_text l x

-- neither required nor optional
abbrev pub is_further : Builtin → Label → Bool
is_further x l = not (listed l (required_of x)) && not (listed l (optional_of x))

abbrev pub pipe_is_further : Builtin → Option Label → Bool
pipe_is_further x None = true
pipe_is_further x (Some p) = is_further x p && is_none (form_of x p)

pub pipes_are_further : (x : Builtin) → pipe_is_further x (pipe_label_of x) ≡ true
pipes_are_further b.From = refl
pipes_are_further _ = refl

abbrev words_are_further : Builtin → List (Label × Form) → Bool
words_are_further x [] = true
words_are_further x (e ∷ es) = (is_further x e.0 && not (is_pipe (pipe_label_of x) e.0)) && words_are_further x es

all_words_are_further : (x : Builtin) → words_are_further x (forms_of x) ≡ true
all_words_are_further b.From = refl
all_words_are_further _ = refl

word_is_further : (x : Builtin) (es : List (Label × Form)) (l : Label) (f : Form) → words_are_further x es ≡ true → form_in l es ≡ Some f
    → (is_further x l && not (is_pipe (pipe_label_of x) l)) ≡ true
word_is_further x [] l f h e = absurd cc
word_is_further x (k ∷ es) l f h e =
    let parts = and_parts (is_further x k.0 && not (is_pipe (pipe_label_of x) k.0)) (words_are_further x es) h in
    by_cases (same_text l k.0)
    (λ same. subst (λ z. (is_further x z && not (is_pipe (pipe_label_of x) z)) ≡ true) (sym (equal_text l k.0 (sym same))) parts.0)
    (λ other. word_is_further x es l f parts.1 (sym (passed (same_text l k.0) (Some k.1) (form_in l es) other) ∙ e))

-- ---- what a line has at such a label

function_of : (o : Option Signature) (L : Line) (needs : GroundRow) (input : GroundField) (t : Ground) → HasSignature o L → L.type ≡ g_fun needs input t
    → IsFunctionOf (signature_or_nothing o) L
function_of None L needs input t h e = absurd (rw e at h.1)
function_of (Some s) L needs input t h e = h

absent_of : (f : GroundField) → is_present f ≡ false → f ≡ g_absent
absent_of g_absent h = refl
absent_of (g_is t) h = absurd (true≢false h)

untrue : (c : Bool) → not c ≡ true → c ≡ false
untrue true h = absurd (false≢true h)
untrue false h = refl

-- a label that isn't the pipe's is required where it is required without it
pub unpiped : (p : Option Label) (input : GroundField) (needs : GroundRow) (l : Label) → is_pipe p l ≡ false → with_input p input needs l ≡ needs l
unpiped None input needs l h = refl
unpiped (Some y) g_absent needs l h = refl
unpiped (Some y) (g_is u) needs l h = passed (same_text l y) (g_is u) (needs l) h

module _ (x : Builtin) (w : Given) (L : Line) (needs : GroundRow) (input : GroundField) (t : Ground) (line : IsLine x w L) (type : L.type ≡ g_fun needs input t) where
  pub labels : IsFunctionOf (signature_or_nothing (signature_of x)) L
  labels = function_of (signature_of x) L needs input t (line_signature x w L line) type

  pub pipe_label_is : L.pipe_label ≡ pipe_label_of x
  pipe_label_is = labels.pipe_label

  pub further_absent : (l : Label) → is_further x l ≡ true → (needs l ≡ g_absent) × (L.optional l ≡ g_absent)
  further_absent l h =
      let parts = and_parts (not (listed l (required_of x))) (not (listed l (optional_of x))) h in
      let made : g_fun labels.needs labels.input labels.gives ≡ g_fun needs input t = sym labels.type ∙ type in
      let same : labels.needs ≡ needs = cc in (
        sym (ap (λ r. r l) same) ∙ absent_of (labels.needs l) (labels.required l ∙ untrue (listed l (required_of x)) parts.0),
        absent_of (L.optional l) (labels.optional l ∙ untrue (listed l (optional_of x)) parts.1),
      )

  -- what comes by the pipe has a label, which is no other one
  pub pipe_facts : (u : Ground) → input ≡ g_is u
      → (p : Label) × (pipe_label_of x ≡ Some p) × (needs p ≡ g_absent) × (L.optional p ≡ g_absent) × (form_of x p ≡ None)
  pipe_facts u e = by_label (pipe_label_of x) refl
    where
      same_input : labels.input ≡ input
      same_input = let made : g_fun labels.needs labels.input labels.gives ≡ g_fun needs input t = sym labels.type ∙ type in cc

      no_form : (o : Option Form) → is_none o ≡ true → o ≡ None
      no_form None h = refl
      no_form (Some f) h = absurd (false≢true h)

      by_label : (o : Option Label) → o ≡ pipe_label_of x → (p : Label) × (pipe_label_of x ≡ Some p) × (needs p ≡ g_absent) × (L.optional p ≡ g_absent) × (form_of x p ≡ None)
      by_label None none = absurd (never_piped (pipe_label_of x) (sym none) labels.piped)
        where
          never_piped : (o : Option Label) → o ≡ None → IsPiped o labels.input → ⊥
          never_piped None none h = let clash : g_absent ≡ g_is u = sym h ∙ same_input ∙ e in cc
          never_piped (Some y) none h = cc
      by_label (Some p) is =
          let h : pipe_is_further x (Some p) ≡ true = subst (λ o. pipe_is_further x o ≡ true) (sym is) (pipes_are_further x) in
          let parts = and_parts (is_further x p) (is_none (form_of x p)) h in
          let absent = further_absent p parts.0 in
          (p, sym is, absent.0, absent.1, no_form (form_of x p) parts.1)

  -- where arguments stand for all that the line takes, none says words
  word_absent : (l : Label) (f : Form) (o : Option Val) → form_of x l ≡ Some f → Suits o (with_input L.pipe_label input needs l) (L.optional l) → o ≡ None
  word_absent l f o e suit =
      let parts = and_parts (is_further x l) (not (is_pipe (pipe_label_of x) l)) (word_is_further x (forms_of x) l f (all_words_are_further x) e) in
      let absent = further_absent l parts.0 in
      absent_suits o
      (subst (Suits o g_absent) absent.1
      (subst (λ g. Suits o g (L.optional l)) (unpiped (pipe_label_of x) input needs l (untrue (is_pipe (pipe_label_of x) l) parts.1) ∙ absent.0)
      (subst (λ p. Suits o (with_input p input needs l) (L.optional l)) pipe_label_is suit)))

  said_none : (args : Slots) → passes (λ l. is_none (form_of x l)) args ≡ true → said_in (Some x) args ≡ Some []
  said_none no_slots h = refl
  said_none (more_slots y v args) h =
      let parts = and_parts (is_none (form_of x y)) (passes (λ l. is_none (form_of x l)) args) h in
      unworded (form_of x y) parts.0 ∙ said_none args parts.1
    where
      unworded : (o : Option Form) → is_none o ≡ true → and_says o y v (said_in (Some x) args) ≡ said_in (Some x) args
      unworded None h = refl
      unworded (Some f) h = absurd (false≢true h)

  pub says_nothing : (args : Slots) → ((l : Label) → Suits (look l args) (with_input L.pipe_label input needs l) (L.optional l)) → said_in (Some x) args ≡ Some []
  says_nothing args suit = said_none args (all_pass (λ l. is_none (form_of x l)) args (λ l there. unformed l (form_of x l) refl there))
    where
      unformed : (l : Label) (o : Option Form) → o ≡ form_of x l → is_there (look l args) ≡ true → is_none o ≡ true
      unformed l None e there = refl
      unformed l (Some f) e there = absurd (false≢true (sym (ap is_there (word_absent l f (look l args) (sym e) (suit l))) ∙ there))
