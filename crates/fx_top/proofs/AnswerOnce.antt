-- The answers exclude each other, but for those of the devices and of memory.
use Rattle.std.proofs.Common.{◌≡◌, ℕ, ℤ, ◌+◌, Bool, ◌⊎◌, inl, inr, List, [], ◌∷◌, Option, Some, refl, sym, ◌∙◌, ap, subst}
use Rattle.fx_base.specs.Outside.{Told}
use Rattle.fx_base.specs.declared.place.Place.{Place}
use Rattle.fx_load.specs.declared.loads.Load.{Load}
use Rattle.fx_load.specs.Loads.{IsTold, IsLong}
use Rattle.fx_load.proofs.BytesLemmas.{same_cut}
use Rattle.fx_load.proofs.LoadsOnce.{same_told, long_or_told}
use Rattle.fx_top.specs.declared.command.Command.{Command}
use Rattle.fx_top.specs.declared.outcome.Outcome.{Outcome}
use Rattle.fx_top.specs.declared.outcome.Outcome.TheVariants as outcome
use Rattle.fx_top.specs.declared.query.Query.{Query}
use Rattle.fx_top.specs.declared.run.TheConstants.{MOST_SCRIPT_BYTES}
use Rattle.fx_top.specs.Command.{AreLoads, Commands, IsCommand, is_there, mode_of, once, value_or}
use Rattle.fx_top.specs.Words.{says}
use Rattle.fx_top.specs.declared.words.Precision.TheVariants as unit
use Rattle.fx_top.specs.declared.words.Reading.TheVariants as reading
use Rattle.fx_top.specs.declared.words.Said.{Said}
use Rattle.fx_top.specs.Syntax.{IsSyntax, IsScript, IsNotBuilt}
use Rattle.fx_top.specs.Answer.{Answers, IsSettled, Runs}
use Rattle.fx_top.proofs.RunOnce.{RunEnds, run_ends, same_run}
use Rattle.fx_top.proofs.ScriptOnce.{same_syntax, syntax_or_tree, same_script, script_or_not_built}

-- ---- the words

same_loads : (words : List (List ℕ)) (a b : List Load) → AreLoads words a → AreLoads words b → a ≡ b
same_loads [] [] [] g h = refl
same_loads [] [] (y ∷ b) g h = absurd h
same_loads [] (x ∷ a) b g h = absurd g
same_loads (word ∷ words) [] b g h = absurd g
same_loads (word ∷ words) (x ∷ a) [] g h = absurd h
same_loads (word ∷ words) (x ∷ a) (y ∷ b) g h =
    let parts = same_cut 61 x.bucket y.bucket x.file y.file g.0.cut h.0.cut (sym g.0.spelled ∙ h.0.spelled) in
    let rest = same_loads words a b g.1 h.1 in
    λ i. record { bucket = parts.0 i; file = parts.1 i } ∷ rest i

same_some : {A : Type 0} (o : Option A) (x y : A) → o ≡ Some x → o ≡ Some y → x ≡ y
same_some o x y g h = let both : Some x ≡ Some y = sym g ∙ h in cc both

same_commands : (said : Said) (c d : Command) → Commands said c → Commands said d → c ≡ d
same_commands said c d g h =
    let words : c.script ∷ g.loads ≡ d.script ∷ h.loads = sym g.words ∙ h.words in
    let scripts : c.script ≡ d.script = cc words in
    let files : g.loads ≡ h.loads = cc words in
    let loads = same_loads h.loads c.loads d.loads (subst (λ ws. AreLoads ws c.loads) files g.are_loads) h.are_loads in
    let nows = same_some (once said.nows) c.moment d.moment g.moment h.moment in
    let precisions = g.precision_is ∙ ap (λ p. value_or p unit.Ns) (same_some (once said.precisions) g.precision h.precision g.one_precision h.one_precision) ∙ sym h.precision_is in
    let skips = g.skip_is ∙ ap is_there (same_some (once said.skips) g.skip h.skip g.one_skip h.one_skip) ∙ sym h.skip_is in
    λ i. record { script = scripts i; loads = loads i; moment = nows i; precision = precisions i; skip_floats = skips i }

same_command : (words : List (List ℕ)) (c d : Command) → IsCommand words c → IsCommand words d → c ≡ d
same_command words c d g h =
    let rests : g.rest ≡ h.rest = cc (g.spelled, h.spelled) in
    let said = same_some (says reading.Open h.rest) g.run.said h.run.said (subst (λ ws. says reading.Open ws ≡ Some g.run.said) rests g.run.says_it) h.run.says_it in
    same_commands h.run.said c d (subst (λ s. Commands s c) said g.run.commands) h.run.commands

-- ---- an answer by what was looked at before it, stage by stage

-- past a script's bytes
record Fails (script : List ℕ) (o : Outcome) : Type 0 where
  pub place : Place
  pub deep : Bool
  pub fails : IsSyntax script place.at deep
  pub answer : o ≡ outcome.Syntax place deep

abbrev TextEnds : ℤ → Told → Command → List ℕ → Outcome → Type 0
TextEnds moment told c script o = Fails script o ⊎ ((IsNotBuilt script × (o ≡ outcome.NotBuilt)) ⊎ ((q : Query) × IsScript script q × RunEnds (mode_of moment c) told c q o))

same_failure : (script : List ℕ) (o p : Outcome) → Fails script o → Fails script p → o ≡ p
same_failure script o p g h =
    let same = same_syntax script g.place.at h.place.at g.deep h.deep g.fails h.fails in
    g.answer ∙ (λ i. outcome.Syntax (record { at = same.0 i }) (same.1 i)) ∙ sym h.answer

same_text_end : (moment : ℤ) (told : Told) (c : Command) (script : List ℕ) (o p : Outcome) → TextEnds moment told c script o → TextEnds moment told c script p → o ≡ p
same_text_end moment told c script o p (inl g) (inl h) = same_failure script o p g h
same_text_end moment told c script o p (inl g) (inr (inl h)) = absurd (syntax_or_tree script g.place.at g.deep h.0.tree g.fails h.0.has_tree)
same_text_end moment told c script o p (inl g) (inr (inr h)) = absurd (syntax_or_tree script g.place.at g.deep h.1.tree g.fails h.1.has_tree)
same_text_end moment told c script o p (inr (inl g)) (inl h) = absurd (syntax_or_tree script h.place.at h.deep g.0.tree h.fails g.0.has_tree)
same_text_end moment told c script o p (inr (inl g)) (inr (inl h)) = g.1 ∙ sym h.1
same_text_end moment told c script o p (inr (inl g)) (inr (inr h)) = absurd (script_or_not_built script h.0 h.1 g.0)
same_text_end moment told c script o p (inr (inr g)) (inl h) = absurd (syntax_or_tree script h.place.at h.deep g.1.tree h.fails g.1.has_tree)
same_text_end moment told c script o p (inr (inr g)) (inr (inl h)) = absurd (script_or_not_built script g.0 g.1 h.0)
same_text_end moment told c script o p (inr (inr g)) (inr (inr h)) =
    same_run (mode_of moment c) told c h.0 o p (subst (λ q. RunEnds (mode_of moment c) told c q o) (same_script script g.0 h.0 g.1 h.1) g.2) h.2

-- past the words
abbrev ScriptEnds : ℤ → Told → Command → Outcome → Type 0
ScriptEnds moment told c o =
    (IsLong told c.script MOST_SCRIPT_BYTES × (o ≡ outcome.TooLong c.script (MOST_SCRIPT_BYTES + 1))) ⊎ ((script : List ℕ) × IsTold told c.script MOST_SCRIPT_BYTES script × TextEnds moment told c script o)

same_script_end : (moment : ℤ) (told : Told) (c : Command) (o p : Outcome) → ScriptEnds moment told c o → ScriptEnds moment told c p → o ≡ p
same_script_end moment told c o p (inl g) (inl h) = g.1 ∙ sym h.1
same_script_end moment told c o p (inl g) (inr h) = absurd (long_or_told told c.script MOST_SCRIPT_BYTES h.0 g.0 h.1)
same_script_end moment told c o p (inr g) (inl h) = absurd (long_or_told told c.script MOST_SCRIPT_BYTES g.0 h.0 g.1)
same_script_end moment told c o p (inr g) (inr h) =
    same_text_end moment told c h.0 o p (subst (λ script. TextEnds moment told c script o) (same_told told c.script MOST_SCRIPT_BYTES g.0 h.0 g.1 h.1) g.2) h.2

abbrev WordsEnd : ℤ → Told → List (List ℕ) → Outcome → Type 0
WordsEnd moment told words o = (((c : Command) → IsCommand words c → ⊥) × (o ≡ outcome.Usage)) ⊎ ((c : Command) × IsCommand words c × ScriptEnds moment told c o)

same_words_end : (moment : ℤ) (told : Told) (words : List (List ℕ)) (o p : Outcome) → WordsEnd moment told words o → WordsEnd moment told words p → o ≡ p
same_words_end moment told words o p (inl g) (inl h) = g.1 ∙ sym h.1
same_words_end moment told words o p (inl g) (inr h) = absurd (g.0 h.0 h.1)
same_words_end moment told words o p (inr g) (inl h) = absurd (h.0 g.0 g.1)
same_words_end moment told words o p (inr g) (inr h) = same_script_end moment told h.0 o p (subst (λ c. ScriptEnds moment told c o) (same_command words g.0 h.0 g.1 h.1) g.2) h.2

-- ---- an answer that the words and the files settle ends so

ran : (moment : ℤ) (told : Told) (words : List (List ℕ)) (old new : Option (List ℕ)) (o : Outcome) → IsSettled o → Runs moment told words old new o → (c : Command) × IsCommand words c × ScriptEnds moment told c o
ran moment told words old new o s h =
    (h.command, h.asks.command, inr (h.asks.script, h.asks.script_file, inr (inr (h.query, h.asks.query, run_ends (mode_of moment h.command) told h.command h.query old new o s h.ends))))

words_end : (moment : ℤ) (told : Told) (words : List (List ℕ)) (old new : Option (List ℕ)) (o : Outcome) → IsSettled o → Answers moment told words old new o → WordsEnd moment told words o
words_end moment told words old new outcome.Usage s h = inl (h.0, refl)
words_end moment told words old new (outcome.TooLong name taken) s (inl h) =
    inr (h.0.0, h.0.1, inl (subst (λ n. IsLong told n MOST_SCRIPT_BYTES) h.0.2 h.1, λ i. outcome.TooLong (h.0.2 i) (h.2 i)))
words_end moment told words old new (outcome.TooLong name taken) s (inr h) = inr (ran moment told words old new (outcome.TooLong name taken) s h)
words_end moment told words old new (outcome.Syntax place deep) s h =
    inr (h.0.command, h.0.is_command, inr (h.0.script, h.0.script_file, inl (record { place = place; deep = deep; fails = h.0.has; answer = refl })))
words_end moment told words old new outcome.NotBuilt s h = inr (h.0.command, h.0.is_command, inr (h.0.script, h.0.script_file, inr (inl (h.0.has, refl))))
words_end moment told words old new (outcome.FileFault name) s h = absurd s
words_end moment told words old new outcome.Memory s h = absurd s
words_end moment told words old new outcome.SinkFault s h = absurd s
words_end moment told words old new outcome.Done s h = inr (ran moment told words old new outcome.Done s h)
words_end moment told words old new (outcome.Fault fault) s h = inr (ran moment told words old new (outcome.Fault fault) s h)
words_end moment told words old new (outcome.Line name number reason) s h = inr (ran moment told words old new (outcome.Line name number reason) s h)
words_end moment told words old new (outcome.TooMany name number) s h = inr (ran moment told words old new (outcome.TooMany name number) s h)

pub one_answer : (moment : ℤ) (told : Told) (words : List (List ℕ)) (old new old' new' : Option (List ℕ)) (o p : Outcome) → IsSettled o → IsSettled p → Answers moment told words old new o → Answers moment told words old' new' p → o ≡ p
one_answer moment told words old new old' new' o p s t g h = same_words_end moment told words o p (words_end moment told words old new o s g) (words_end moment told words old' new' p t h)
