-- A built-in takes what is as a line of it requires and allows: each label that is due is given, and no unknown one.
use Rattle.std.proofs.Common.{◌≡◌, refl, sym, ap, subst, ◌∙◌, Bool, true, false, ◌&&◌, ◌++◌, not, List, [], ◌∷◌, Some, None, is_none, is_some, map}
use Rattle.std.specs.Prelude.{if◌then◌else◌, Option}
use Rattle.std.specs.List.{list_all}
use Rattle.std.proofs.lemmas.Bool.{and_from, and_parts}
use Rattle.std.specs.Cmp.Lexicographic.{same_text as equal_text}
use mathlib.Core.Bool.{false≢true}
use Rattle.fx_base.specs.Text.{same_text}
use Rattle.fx_types.specs.Term.{Label}
use Rattle.fx_types.specs.Ground.{Ground, GroundField, GroundRow, g_fun, g_absent, g_is, listed}
use Rattle.fx_types.proofs.Choices.{by_cases, neither, passed}
use Rattle.fx_schemes.proofs.SignatureLaws.{words_given}
use Rattle.fx_schemes.specs.Builtins.{IsLine}
use Rattle.fx_schemes.specs.Given.{Given, words_at}
use Rattle.fx_schemes.specs.Line.{Line}
use Rattle.fx_schemes.specs.Signature.{AreGiven, IsPiped, Word, form_in, form_of, is_present, optional_of, pipe_label_of, required_of, with_pipe, words_of}
use Rattle.fx_schemes.specs.declared.form.Form.{Form}
use Rattle.fx_schemes.specs.declared.form.Form.TheVariants as form
use Rattle.fx_schemes.specs.declared.given.LabelWords.{LabelWords}
use Rattle.fx_schemes.specs.declared.list.Builtin.{Builtin}
use Rattle.fx_schemes.specs.declared.list.Builtin.TheVariants as b
use Rattle.fx_meaning.specs.Native.{all_given, all_listed, due_labels, due_words, free_labels, free_words}
use Rattle.fx_meaning.specs.Value.{Val, array, rec, native, Slots, no_slots, more_slots, look, is_there}
use Rattle.fx_schemes.specs.Written.{one_word, many_words, new_words, words_at_label}
use Rattle.fx_build.specs.Fit.{with_input}
use Rattle.fx_plan.specs.Said.{and_says, said_in, value_says, text_in, item_texts, field_texts, labels_of, fold_name}
use Rattle.fx_build.proofs.NativeLaws.{further_absent, is_further, is_pipe, labels, pipe_is_further, pipe_label_is, pipes_are_further, unpiped}
use Rattle.fx_build.proofs.ParamLaws.{Suits, absent_suits, all_pass, passes, there_itself, there_step}
use Rattle.fx_plan.proofs.SlotLaws.{same_itself}
use Rattle.fx_build.proofs.WordLaws.{first_rest}

-- ---- a label with words has an argument

one_label : (y : Label) (o : Option Label) (g : LabelWords) → one_word y o ≡ Some g → g.label ≡ y
one_label y None g e = absurd cc
one_label y (Some s) g e = let same : words_at_label y (s ∷ []) [] ≡ g = cc in sym (ap (λ k. k.label) same)

many_label : (y : Label) (o : Option (List Label)) (g : LabelWords) → many_words y o ≡ Some g → g.label ≡ y
many_label y None g e = absurd cc
many_label y (Some ws) g e = let same : words_at_label y ws [] ≡ g = cc in sym (ap (λ k. k.label) same)

new_label : (y : Label) (olds : List Label) (o : Option (List Label)) (g : LabelWords) → new_words y olds o ≡ Some g → g.label ≡ y
new_label y olds None g e = absurd cc
new_label y olds (Some ws) g e = let same : words_at_label y olds ws ≡ g = cc in sym (ap (λ k. k.label) same)

value_label : (f : Form) (y : Label) (v : Val) (g : LabelWords) → value_says f y v ≡ Some g → g.label ≡ y
value_label form.Text y v g e = one_label y (text_in v) g e
value_label form.Listed y v g e = one_label y (text_in v) g e
value_label form.Texts y (array vs) g e = many_label y (item_texts vs) g e
value_label form.Renames y (rec fields) g e = new_label y (labels_of fields) (field_texts fields) g e
value_label form.Name y (native h) g e = one_label y (fold_name h) g e
value_label form.Texts y _ g e = absurd cc
value_label form.Renames y _ g e = absurd cc
value_label form.Name y _ g e = absurd cc

module _ (x : Builtin) (args : Slots) (l y : Label) (v : Val) (w : Given) (h : is_some (words_at w l) ≡ true)
    (rest : (ws : Given) → said_in (Some x) args ≡ Some ws → is_some (words_at ws l) ≡ true → is_there (look l args) ≡ true) where
  by_word : (g : LabelWords) (ws : Given) → g.label ≡ y → said_in (Some x) args ≡ Some ws → g ∷ ws ≡ w → is_there (look l (more_slots y v args)) ≡ true
  by_word g ws label says all =
      by_cases (same_text l y)
      (λ same. there_itself (same_text l y) (look l args) v same)
      (λ other. there_step (same_text l y) (look l args) v
      (rest ws says
      (ap is_some (sym (passed (same_text l g.label) (Some g) (words_at ws l) (ap (same_text l) label ∙ other)) ∙ ap (λ k. words_at k l) all) ∙ h)))

  by_form : (o : Option Form) → and_says o y v (said_in (Some x) args) ≡ Some w → is_there (look l (more_slots y v args)) ≡ true
  by_form None k = there_step (same_text l y) (look l args) v (rest w k h)
  by_form (Some f) k = let m = first_rest (value_says f y v) (said_in (Some x) args) w k in by_word m.0 m.1 (value_label f y v m.0 m.2) m.3 m.4

pub said_there : (x : Builtin) (args : Slots) (w : Given) (l : Label) → said_in (Some x) args ≡ Some w → is_some (words_at w l) ≡ true → is_there (look l args) ≡ true
said_there x no_slots w l e h = let none : [] ≡ w = cc in absurd (false≢true (ap (λ k. is_some (words_at k l)) none ∙ h))
said_there x (more_slots y v args) w l e h = by_form x args l y v w h (λ ws. said_there x args ws l) (form_of x y) e

-- ---- what is due

given_behind : (args : Slots) (xs ys : List Label) → all_given xs args ≡ true → all_given ys args ≡ true → all_given (xs ++ ys) args ≡ true
given_behind args [] ys h k = k
given_behind args (x ∷ xs) ys h k =
    let parts = and_parts (is_there (look x args)) (all_given xs args) h in
    and_from (is_there (look x args)) (all_given (xs ++ ys) args) parts.0 (given_behind args xs ys parts.1 k)

given_pipe : (args : Slots) (p : Option Label) (xs : List Label) → ((x : Label) → p ≡ Some x → is_there (look x args) ≡ true) → all_given xs args ≡ true
    → all_given (with_pipe p xs) args ≡ true
given_pipe args None xs h k = k
given_pipe args (Some x) xs h k = and_from (is_there (look x args)) (all_given xs args) (h x refl) k

given_listed : (args : Slots) (xs : List Label) → ((l : Label) → listed l xs ≡ true → is_there (look l args) ≡ true) → all_given xs args ≡ true
given_listed args [] h = refl
given_listed args (x ∷ xs) h =
    and_from (is_there (look x args)) (all_given xs args) (h x (first_listed (same_text x x) (listed x xs) (same_itself x)))
    (given_listed args xs (λ l is. h l (next_listed (same_text l x) (listed l xs) is)))
  where
    first_listed : (c d : Bool) → c ≡ true → (if c then true else d) ≡ true
    first_listed true d e = refl
    first_listed false d e = absurd (false≢true e)

    next_listed : (c d : Bool) → d ≡ true → (if c then true else d) ≡ true
    next_listed true d e = refl
    next_listed false d e = e

given_word : (args : Slots) (c : Bool) (y : Label) (ds : List Label) → (c ≡ true → is_there (look y args) ≡ true) → all_given ds args ≡ true
    → all_given (if c then y ∷ ds else ds) args ≡ true
given_word args true y ds there h = and_from (is_there (look y args)) (all_given ds args) (there refl) h
given_word args false y ds there h = h

given_words : (args : Slots) (w : Given) (ws : List Word) → ((l : Label) → is_some (words_at w l) ≡ true → is_there (look l args) ≡ true) → AreGiven w ws
    → all_given (due_words ws) args ≡ true
given_words args w [] h k = refl
given_words args w (word ∷ ws) h k = given_word args word.due word.label (due_words ws) (λ due. h word.label (k.0 due)) (given_words args w ws h k.1)

-- required labels are no words
required_unworded : (x : Builtin) → list_all (λ l. is_none (form_of x l)) (required_of x) ≡ true
required_unworded b.From = refl
required_unworded _ = refl

pub listed_passes : (test : Label → Bool) (xs : List Label) (l : Label) → list_all test xs ≡ true → listed l xs ≡ true → test l ≡ true
listed_passes test [] l h e = absurd (false≢true e)
listed_passes test (x ∷ xs) l h e =
    let parts = and_parts (test x) (list_all test xs) h in
    by_cases (same_text l x)
    (λ same. ap test (equal_text l x (sym same)) ∙ parts.0)
    (λ other. listed_passes test xs l parts.1 (sym (passed (same_text l x) true (listed l xs) other) ∙ e))

pub no_form : (o : Option Form) → is_none o ≡ true → o ≡ None
no_form None h = refl
no_form (Some f) h = absurd (false≢true h)

suits_there : (o : Option Val) (needs optional : GroundField) → is_present needs ≡ true → Suits o needs optional → is_there o ≡ true
suits_there (Some v) needs optional e h = refl
suits_there None (g_is t) optional e h = absurd h
suits_there None g_absent optional e h = absurd (false≢true e)

present_step : (c : Bool) (u : Ground) (f : GroundField) → is_present f ≡ true → is_present (if c then g_is u else f) ≡ true
present_step true u f h = refl
present_step false u f h = h

present_itself : (c : Bool) (u : Ground) (f : GroundField) → c ≡ true → is_present (if c then g_is u else f) ≡ true
present_itself true u f h = refl
present_itself false u f h = absurd (false≢true h)

required_present : (p : Option Label) (input : GroundField) (needs : GroundRow) (l : Label) → is_present (needs l) ≡ true → is_present (with_input p input needs l) ≡ true
required_present None input needs l h = h
required_present (Some x) g_absent needs l h = h
required_present (Some x) (g_is u) needs l h = present_step (same_text l x) u (needs l) h

pipe_present : (p : Option Label) (input : GroundField) (needs : GroundRow) (l : Label) → p ≡ Some l → IsPiped p input → is_present (with_input p input needs l) ≡ true
pipe_present None input needs l e h = absurd cc
pipe_present (Some x) g_absent needs l e h = let clash : g_absent ≡ g_is h.0 = h.1 in absurd cc
pipe_present (Some x) (g_is u) needs l e h = let same : l ≡ x = cc in present_itself (same_text l x) u (needs l) (subst (λ z. same_text l z ≡ true) same (same_itself l))

-- ---- what is known

unlisted_behind : (l : Label) (xs ys : List Label) → listed l (xs ++ ys) ≡ false → (listed l xs ≡ false) × (listed l ys ≡ false)
unlisted_behind l [] ys h = (refl, h)
unlisted_behind l (x ∷ xs) ys h =
    let k = neither (same_text l x) (listed l (xs ++ ys)) h in
    let m = unlisted_behind l xs ys k.1 in
    (passed (same_text l x) true (listed l xs) k.0 ∙ m.0, m.1)

unlisted_pipe : (l : Label) (p : Option Label) (xs : List Label) → listed l (with_pipe p xs) ≡ false → (is_pipe p l ≡ false) × (listed l xs ≡ false)
unlisted_pipe l None xs h = (refl, h)
unlisted_pipe l (Some x) xs h = neither (same_text l x) (listed l xs) h

unlisted_word : (c : Bool) (l y : Label) (ds fs : List Label) → listed l (if c then y ∷ ds else ds) ≡ false → listed l (if c then fs else y ∷ fs) ≡ false
    → (same_text l y ≡ false) × (listed l ds ≡ false) × (listed l fs ≡ false)
unlisted_word true l y ds fs h k = let m = neither (same_text l y) (listed l ds) h in (m.0, m.1, k)
unlisted_word false l y ds fs h k = let m = neither (same_text l y) (listed l fs) k in (m.0, h, m.1)

unlisted_form : (l : Label) (ws : List Word) → listed l (due_words ws) ≡ false → listed l (free_words ws) ≡ false → form_in l (map (λ w. (w.label, w.form)) ws) ≡ None
unlisted_form l [] h k = refl
unlisted_form l (w ∷ ws) h k =
    let m = unlisted_word w.due l w.label (due_words ws) (free_words ws) h k in
    passed (same_text l w.label) (Some w.form) (form_in l (map (λ w. (w.label, w.form)) ws)) m.0 ∙ unlisted_form l ws m.1 m.2

listed_pass : (xs : List Label) (args : Slots) → passes (λ l. listed l xs) args ≡ true → all_listed xs args ≡ true
listed_pass xs no_slots h = refl
listed_pass xs (more_slots y v args) h =
    let parts = and_parts (listed y xs) (passes (λ l. listed l xs) args) h in
    and_from (listed y xs) (all_listed xs args) parts.0 (listed_pass xs args parts.1)

-- ---- both

module _ (x : Builtin) (w : Given) (L : Line) (needs : GroundRow) (input : GroundField) (t : Ground) (args : Slots) (line : IsLine x w L) (type : L.type ≡ g_fun needs input t)
    (says : said_in (Some x) args ≡ Some w) (suit : (l : Label) → form_of x l ≡ None → Suits (look l args) (with_input L.pipe_label input needs l) (L.optional l)) where
  there : (l : Label) → form_of x l ≡ None → is_present (with_input L.pipe_label input needs l) ≡ true → is_there (look l args) ≡ true
  there l none h = suits_there (look l args) (with_input L.pipe_label input needs l) (L.optional l) h (suit l none)

  due_given : all_given (due_labels x) args ≡ true
  due_given =
      let k = labels x w L needs input t line type in
      let made : g_fun k.needs k.input k.gives ≡ g_fun needs input t = sym k.type ∙ type in
      let same_needs : k.needs ≡ needs = cc in
      let same_input : k.input ≡ input = cc in
      given_pipe args (pipe_label_of x) (required_of x ++ due_words (words_of x))
      (λ p is.
      let parts = and_parts (is_further x p) (is_none (form_of x p)) (subst (λ o. pipe_is_further x o ≡ true) is (pipes_are_further x)) in
      there p (no_form (form_of x p) parts.1)
      (pipe_present L.pipe_label input needs p (k.pipe_label ∙ is) (subst (λ o. IsPiped o input) (sym k.pipe_label) (subst (IsPiped (pipe_label_of x)) same_input k.piped))))
      (given_behind args (required_of x) (due_words (words_of x))
      (given_listed args (required_of x)
      (λ l is. there l (no_form (form_of x l) (listed_passes (λ l. is_none (form_of x l)) (required_of x) l (required_unworded x) is))
      (required_present L.pipe_label input needs l (sym (ap (λ r. is_present (r l)) same_needs) ∙ k.required l ∙ is))))
      (given_words args w (words_of x) (λ l h. said_there x args w l says h) (words_given x w L line)))

  known : (l : Label) → is_there (look l args) ≡ true → listed l (due_labels x ++ free_labels x) ≡ true
  known l h = by_cases (listed l (due_labels x ++ free_labels x)) (λ yes. yes) (λ out. absurd (false≢true (sym (ap is_there (unknown out)) ∙ h)))
    where
      unknown : listed l (due_labels x ++ free_labels x) ≡ false → look l args ≡ None
      unknown out =
          let halves = unlisted_behind l (due_labels x) (free_labels x) out in
          let piped = unlisted_pipe l (pipe_label_of x) (required_of x ++ due_words (words_of x)) halves.0 in
          let due = unlisted_behind l (required_of x) (due_words (words_of x)) piped.1 in
          let free = unlisted_behind l (optional_of x) (free_words (words_of x)) halves.1 in
          let absent = further_absent x w L needs input t line type l (and_from (not (listed l (required_of x))) (not (listed l (optional_of x))) (ap not due.0) (ap not free.0)) in
          let same : with_input L.pipe_label input needs l ≡ g_absent =
          ap (λ p. with_input p input needs l) (pipe_label_is x w L needs input t line type) ∙ unpiped (pipe_label_of x) input needs l piped.0 ∙ absent.0 in
          absent_suits (look l args)
          (subst (Suits (look l args) g_absent) absent.1 (subst (λ f. Suits (look l args) f (L.optional l)) same (suit l (unlisted_form l (words_of x) due.1 free.1))))

  -- the arguments of a call that a line allows are taken
  pub line_taken : (all_given (due_labels x) args && all_listed (due_labels x ++ free_labels x) args) ≡ true
  line_taken =
      and_from (all_given (due_labels x) args) (all_listed (due_labels x ++ free_labels x) args) due_given
      (listed_pass (due_labels x ++ free_labels x) args (all_pass (λ l. listed l (due_labels x ++ free_labels x)) args known))
