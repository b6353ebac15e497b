-- A call by a line as inference.
use Rattle.std.proofs.Common.{◌≡◌, ◌↔◌, sym, ap, subst, ◌∙◌, ℕ, ◌≤◌, List, Option, None, Some, arith}
use Rattle.std.specs.Prelude.{option_map}
use Rattle.fx_types.specs.Agree.{Agree}
use Rattle.fx_types.specs.Ground.{Ground, g_fun, g_absent, g_is}
use Rattle.fx_types.specs.Instance.{Solution, ground, ground_labels, ground_pipe}
use Rattle.fx_types.specs.Shape.{term, pipe_of}
use Rattle.fx_types.specs.Term.{Label, Pipe, no_pipe}
use Rattle.fx_types.specs.declared.term.LabelTy.{LabelTy}
use Rattle.fx_types.specs.declared.term.Ty.{Ty}
use Rattle.fx_types.proofs.AgreeLaws.{agree_less}
use Rattle.fx_schemes.specs.Line.{take_out}
use Rattle.fx_unify.specs.declared.bindings.Bindings.{Bindings}
use Rattle.fx_unify.specs.Solutions.{Solves, next_of}
use Rattle.fx_infer.specs.declared.lines.LineTy.{LineTy}
use Rattle.fx_infer.specs.Calls.{IsCalled, IsApart, AllSuit, AreSplit, unless_free, entry_of}
use Rattle.fx_infer.specs.Finds.{line_under}
use Rattle.fx_infer.specs.Infers.{Infers, HasNone, IsBelow, AreBelow}
use Rattle.fx_infer.specs.Lists.{labels_in}
use Rattle.fx_infer.specs.Rules.{Gives}
use Rattle.fx_infer.proofs.ByLineLaws.{due, piped_asks, plain_asks, label_asks, AsksInput}
use Rattle.fx_infer.proofs.DivideLaws.{WithoutSame, field_in, entry_field}
use Rattle.fx_infer.proofs.InfersLaws.{asked_first}

-- terms that say nothing of numbers from some number on

pub needs_below : (n m : ℕ) (os es ns : List LabelTy) (p q : Pipe) → n ≤ m → ((s : Solution) (l : Label) → ground_labels s (labels_in ns) l ≡ unless_free (ground_labels s (labels_in os) l) (ground_labels s (labels_in es) l))
    → AreBelow n (labels_in os) no_pipe → AreBelow n (labels_in es) p → ((s o : Solution) → Agree m s o → ground_pipe s q ≡ ground_pipe o q) → AreBelow m (labels_in ns) q
needs_below n m os es ns p q le others a b pipe = λ s o agree.
    (let small : Agree n s o = agree_less m n s o agree le in (
      λ i l. (others s l ∙ (λ j. unless_free ((a s o small).0 j l) ((b s o small).0 j l)) ∙ sym (others o l)) i,
      pipe s o agree,
    ))

pub out_below : (n : ℕ) (x : Label) (es rs : List LabelTy) (p q : Pipe) → WithoutSame x es rs → AreBelow n (labels_in es) p → ((s o : Solution) → Agree n s o → ground_pipe s q ≡ ground_pipe o q) → AreBelow n (labels_in rs) q
out_below n x es rs p q same a pipe = λ s o agree. (λ i l. (same s l ∙ (λ j. take_out x ((a s o agree).0 j) l) ∙ sym (same o l)) i, pipe s o agree)

gives_along : (n : ℕ) (ty : Ty) (ns : List LabelTy) (p : Pipe) → IsBelow n (term ty) → AreBelow n (labels_in ns) p → (s o : Solution) → Agree n s o → (t : Ground)
    → Gives (ground s (term ty)) (ground_labels s (labels_in ns)) (ground_pipe s p) t → Gives (ground o (term ty)) (ground_labels o (labels_in ns)) (ground_pipe o p) t
gives_along n ty ns p a b s o agree t h = (h.0, sym (a s o agree) ∙ h.1 ∙ (λ i. g_fun ((b s o agree).0 i) ((b s o agree).1 i) t))

same_type : (t u : Ground) → g_is t ≡ g_is u → t ≡ u
same_type t u e = cc

module _ (old mid : Bindings) (x : LineTy) (es ns : List LabelTy) (apart : (s : Solution) → Solves s old → IsApart (line_under s x)) (below : IsBelow (next_of old) (term x.ty)) (free : AreBelow (next_of old) (labels_in x.optional) no_pipe)
    (split : AreSplit old es x.optional mid ns) where
  rows : (s : Solution) → ground_labels s (labels_in ns) ≡ due (ground_labels s (labels_in x.optional)) (ground_labels s (labels_in es))
  rows s = λ i l. split.others s l i

  -- the answer, where the term u stands for what comes by the pipe
  module _ (p : Option Ty) (given : AreBelow (next_of old) (labels_in es) (pipe_of (option_map term p))) where
    abbrev Called : Solution → Ground → Type 0
    Called s t = IsCalled (ground_pipe s (pipe_of (option_map term p))) (ground_labels s (labels_in es)) (line_under s x) t

    abbrev Given : Solution → Ground → Type 0
    Given s t = Gives (ground s (term x.ty)) (ground_labels s (labels_in ns)) (ground_pipe s (pipe_of (option_map term p))) t

    all_below : AreBelow (next_of old) (labels_in ns) (pipe_of (option_map term p))
    all_below = needs_below (next_of old) (next_of old) x.optional es ns (pipe_of (option_map term p)) (pipe_of (option_map term p)) (let le : next_of old ≤ next_of old = omega arith in le) split.others free given (λ s o agree. (given s o agree).1)

    pub mid_below : AreBelow (next_of mid) (labels_in ns) (pipe_of (option_map term p))
    mid_below = λ s o agree. all_below s o (agree_less (next_of mid) (next_of old) s o agree split.more)

    all_called : (new : Bindings) (f : Solution → Ground) → Infers Given mid new f → ((s : Solution) (t : Ground) → Solves s old → Called s t ↔ (AllSuit s x.optional es × Given s t)) → Infers Called old new f
    all_called new f h same = asked_first (λ s. AllSuit s x.optional es) Given Called old mid new f split.asked split.more h (λ s o agree t g. gives_along (next_of old) x.ty ns (pipe_of (option_map term p)) below all_below s o agree t g) same

  pub piped_called : (p : Option Ty) (u : Ty) → p ≡ Some u → (given : AreBelow (next_of old) (labels_in es) (pipe_of (option_map term p))) (new : Bindings) (f : Solution → Ground)
      → Infers (λ s t. Gives (ground s (term x.ty)) (ground_labels s (labels_in ns)) (ground_pipe s (pipe_of (option_map term (Some u)))) t) mid new f
      → Infers (λ s t. IsCalled (ground_pipe s (pipe_of (option_map term p))) (ground_labels s (labels_in es)) (line_under s x) t) old new f
  piped_called p u is given new f h =
      subst (λ o. Infers (λ s t. IsCalled (ground_pipe s (pipe_of (option_map term o))) (ground_labels s (labels_in es)) (line_under s x) t) old new f) (sym is)
      (all_called (Some u) (subst (λ o. AreBelow (next_of old) (labels_in es) (pipe_of (option_map term o))) is given) new f h same)
    where
      same : (s : Solution) (t : Ground) → Solves s old
          → IsCalled (g_is (ground s (term u))) (ground_labels s (labels_in es)) (line_under s x) t ↔ (AllSuit s x.optional es × Gives (ground s (term x.ty)) (ground_labels s (labels_in ns)) (g_is (ground s (term u))) t)
      same s t solves =
          let law = piped_asks (line_under s x) (apart s solves) (ground_labels s (labels_in es)) (ground s (term u)) t in (
            λ c. ((law.0 c.1).0, (c.0, (law.0 c.1).1 ∙ ap (λ r. g_fun r (g_is (ground s (term u))) t) (sym (rows s)))),
            λ c. (c.1.0, law.1 (c.0, c.1.1 ∙ ap (λ r. g_fun r (g_is (ground s (term u))) t) (rows s))),
          )

  pub plain_called : (p : Option Ty) → p ≡ None → x.pipe_label ≡ None → (given : AreBelow (next_of old) (labels_in es) (pipe_of (option_map term p))) (new : Bindings) (f : Solution → Ground)
      → Infers (λ s t. Gives (ground s (term x.ty)) (ground_labels s (labels_in ns)) g_absent t) mid new f
      → Infers (λ s t. IsCalled (ground_pipe s (pipe_of (option_map term p))) (ground_labels s (labels_in es)) (line_under s x) t) old new f
  plain_called p is none given new f h =
      subst (λ o. Infers (λ s t. IsCalled (ground_pipe s (pipe_of (option_map term o))) (ground_labels s (labels_in es)) (line_under s x) t) old new f) (sym is)
      (all_called None (subst (λ o. AreBelow (next_of old) (labels_in es) (pipe_of (option_map term o))) is given) new f h same)
    where
      same : (s : Solution) (t : Ground) → Solves s old
          → IsCalled g_absent (ground_labels s (labels_in es)) (line_under s x) t ↔ (AllSuit s x.optional es × Gives (ground s (term x.ty)) (ground_labels s (labels_in ns)) g_absent t)
      same s t solves =
          let law = plain_asks (line_under s x) (apart s solves) (ground_labels s (labels_in es)) t none in (
            λ c. ((law.0 c.1).0, (c.0, (law.0 c.1).1 ∙ ap (λ r. g_fun r g_absent t) (sym (rows s)))),
            λ c. (c.1.0, law.1 (c.0, c.1.1 ∙ ap (λ r. g_fun r g_absent t) (rows s))),
          )

  -- what comes by the pipe is given under its label
  module _ (p : Option Ty) (is : p ≡ None) (y : Label) (label : x.pipe_label ≡ Some y) (given : AreBelow (next_of old) (labels_in es) (pipe_of (option_map term p))) where
    pub label_missing : entry_of y ns ≡ None → HasNone (λ s t. IsCalled (ground_pipe s (pipe_of (option_map term p))) (ground_labels s (labels_in es)) (line_under s x) t) old
    label_missing none = λ s solves within t c.
        (let called : IsCalled g_absent (ground_labels s (labels_in es)) (line_under s x) t = subst (λ o. IsCalled (ground_pipe s (pipe_of (option_map term o))) (ground_labels s (labels_in es)) (line_under s x) t) is c in
        let k : AsksInput (line_under s x) (apart s solves) (ground_labels s (labels_in es)) y label t = (label_asks (line_under s x) (apart s solves) (ground_labels s (labels_in es)) y label t).0 called.1 in
        no_type k.0 (sym (entry_field s ns y ∙ ap (field_in s) none) ∙ split.others s y ∙ k.2))
      where
        no_type : (u : Ground) → g_absent ≡ g_is u → ⊥
        no_type u e = cc

    module _ (e : LabelTy) (input : Ty) (rs : List LabelTy) (there : entry_of y ns ≡ Some e) (copied : input ≡ e.ty) (without : WithoutSame y ns rs) where
      at_label : (s : Solution) → ground_labels s (labels_in ns) y ≡ g_is (ground s (term input))
      at_label s = entry_field s ns y ∙ ap (field_in s) there ∙ ap (λ t. g_is (ground s (term t))) (sym copied)

      input_below : (s o : Solution) → Agree (next_of old) s o → g_is (ground s (term input)) ≡ g_is (ground o (term input))
      input_below s o agree = sym (at_label s) ∙ ap (λ r. r y) ((all_below p given s o agree).0) ∙ at_label o

      rest_below : AreBelow (next_of old) (labels_in rs) (pipe_of (option_map term (Some input)))
      rest_below = out_below (next_of old) y ns rs (pipe_of (option_map term p)) (pipe_of (option_map term (Some input))) without (all_below p given) input_below

      pub label_below : AreBelow (next_of mid) (labels_in rs) (pipe_of (option_map term (Some input)))
      label_below = λ s o agree. rest_below s o (agree_less (next_of mid) (next_of old) s o agree split.more)

      pub label_called : (new : Bindings) (f : Solution → Ground)
          → Infers (λ s t. Gives (ground s (term x.ty)) (ground_labels s (labels_in rs)) (ground_pipe s (pipe_of (option_map term (Some input)))) t) mid new f
          → Infers (λ s t. IsCalled (ground_pipe s (pipe_of (option_map term p))) (ground_labels s (labels_in es)) (line_under s x) t) old new f
      label_called new f h =
          subst (λ o. Infers (λ s t. IsCalled (ground_pipe s (pipe_of (option_map term o))) (ground_labels s (labels_in es)) (line_under s x) t) old new f) (sym is)
          (asked_first (λ s. AllSuit s x.optional es) (λ s t. Gives (ground s (term x.ty)) (ground_labels s (labels_in rs)) (g_is (ground s (term input))) t) (λ s t. IsCalled g_absent (ground_labels s (labels_in es)) (line_under s x) t)
          old mid new f split.asked split.more h (λ s o agree t g. gives_along (next_of old) x.ty rs (pipe_of (option_map term (Some input))) below rest_below s o agree t g) same)
        where
          others : (s : Solution) → ground_labels s (labels_in rs) ≡ take_out y (due (ground_labels s (labels_in x.optional)) (ground_labels s (labels_in es)))
          others s = λ i l. (without s l ∙ ap (λ r. take_out y r l) (rows s)) i

          same : (s : Solution) (t : Ground) → Solves s old
              → IsCalled g_absent (ground_labels s (labels_in es)) (line_under s x) t ↔ (AllSuit s x.optional es × Gives (ground s (term x.ty)) (ground_labels s (labels_in rs)) (g_is (ground s (term input))) t)
          same s t solves =
              let law = label_asks (line_under s x) (apart s solves) (ground_labels s (labels_in es)) y label t in
              let found : due (ground_labels s (labels_in x.optional)) (ground_labels s (labels_in es)) y ≡ g_is (ground s (term input)) = sym (split.others s y) ∙ at_label s in (
                λ c. (let k : AsksInput (line_under s x) (apart s solves) (ground_labels s (labels_in es)) y label t = law.0 c.1 in
                    (k.1, (c.0, k.3 ∙ (λ i. g_fun (sym (others s) i) (g_is (same_type k.0 (ground s (term input)) (sym k.2 ∙ found) i)) t)))),
                λ c. (c.1.0, law.1 (ground s (term input), c.0, found, c.1.1 ∙ ap (λ r. g_fun r (g_is (ground s (term input))) t) (others s))),
              )
