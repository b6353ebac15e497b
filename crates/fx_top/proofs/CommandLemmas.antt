-- The words of a command line.
use Rattle.std.proofs.Math.Seq.{take-length}
use Rattle.std.proofs.Common.{◌≡◌, ◌<◌, ◌≤◌, ℕ, zero, suc, ◌+◌, ◌-◌, ◌==◌, true, List, [], ◌∷◌, ◌++◌, length, take, drop, ap, Option, None, Some, arith, sym, ◌∙◌, refl, subst, get_or, Result, Ok, Err, IfOk, codes}
use Rattle.std.specs.Option.{MatchOption, IfSome, IfNone}
use Rattle.std.specs.List.{position_or_len, before_first, after_first}
use Rattle.fx_base.specs.declared.memory.Memory.{Memory}
use denote.Ref.{Bor}
use Rattle.std.proofs.lemmas.Bool.{eqb-true}
use Rattle.fx_load.specs.Bytes.{IsFreeOf}
use Rattle.fx_load.specs.declared.loads.Load.{Load}
use Rattle.std.proofs.lemmas.List.{take_more}
use Rattle.fx_top.specs.Command.{AreLoads, Commands, IsLoad, IsRun, IsCommand}
use Rattle.fx_top.specs.Words.{says}
use Rattle.fx_top.specs.declared.words.Reading.TheVariants as reading
use Rattle.fx_top.specs.declared.words.Said.{Said}
use Rattle.fx_top.specs.declared.command.Command.{Command}
use Rattle.fx_load.proofs.BytesLemmas.{first_parts, none_first, same_cut, not_cut}

-- what a cut at the first `=` tells of its parts
pub cut_at : (word : List ℕ) (r : Option (Bor (List ℕ) × Bor (List ℕ)))
    → MatchOption r (position_or_len (λ a. a == 61) word ≡ length word) (λ x. (position_or_len (λ a. a == 61) word < length word) × (x.0.now ≡ before_first (λ a. a == 61) word) × (x.1.now ≡ after_first (λ a. a == 61) word))
    → IfSome r (λ p. word ≡ p.0.now ++ 61 ∷ p.1.now) × IfSome r (λ p. IsFreeOf 61 p.0.now) × IfNone r (IsFreeOf 61 word)
cut_at word None h = (tt, tt, none_first 61 word h)
cut_at word (Some p) h =
    let parts = first_parts 61 word h.0 in
    (rw (h.1, h.2) parts.0, rw h.1 parts.1, tt)

pub is_nil : (xs : List ℕ) → (length xs == 0) ≡ true → xs ≡ []
is_nil [] h = refl
is_nil (x ∷ xs) h = absurd (omega (arith, eqb-true (length (x ∷ xs)) 0 h))

-- a word whose first `=` has nothing on one side names no bucket and file
pub no_bucket : (word bucket file : List ℕ) → word ≡ bucket ++ 61 ∷ file → IsFreeOf 61 bucket → (length bucket == 0) ≡ true → (b f : List ℕ) → IsLoad word b f → ⊥
no_bucket word bucket file cut free none b f load = load.bucket_there (sym (same_cut 61 bucket b file f free load.cut (sym cut ∙ load.spelled)).0 ∙ is_nil bucket none)

pub no_file : (word bucket file : List ℕ) → word ≡ bucket ++ 61 ∷ file → IsFreeOf 61 bucket → (length file == 0) ≡ true → (b f : List ℕ) → IsLoad word b f → ⊥
no_file word bucket file cut free none b f load = load.file_there (sym (same_cut 61 bucket b file f free load.cut (sym cut ∙ load.spelled)).1 ∙ is_nil file none)

-- a word without `=` names none
pub uncut : (word : List ℕ) → IsFreeOf 61 word → (b f : List ℕ) → IsLoad word b f → ⊥
uncut word free b f load = not_cut 61 b f (subst (IsFreeOf 61) load.spelled free)

-- the words of loads, one after another
pub loads_push : (words : List (List ℕ)) (loads : List Load) (word : List ℕ) (l : Load) → AreLoads words loads → IsLoad word l.bucket l.file → AreLoads (words ++ word ∷ []) (loads ++ l ∷ [])
loads_push [] [] word l h one = (one, tt)
loads_push [] (k ∷ loads) word l h one = absurd h
loads_push (w ∷ words) [] word l h one = absurd h
loads_push (w ∷ words) (k ∷ loads) word l h one = (h.0, loads_push words loads word l h.1 one)

pub loads_on : (words : List (List ℕ)) (loads new : List Load) (i : ℕ) (word : List ℕ) (l : Load) → i < length words → word ≡ get_or words i word → new ≡ loads ++ l ∷ [] → AreLoads (take i words) loads → IsLoad word l.bucket l.file → AreLoads (take (i + 1) words) new
loads_on words loads new i word l within is e h one =
    let longer : take i words ++ word ∷ [] ≡ take (i + 1) words = ap (λ w. take i words ++ w ∷ []) is ∙ sym (take_more words i word within) in
    subst (AreLoads (take (i + 1) words)) (sym e) (subst (λ ws. AreLoads ws (loads ++ l ∷ [])) longer (loads_push (take i words) loads word l h one))

-- a word that loads nothing
pub no_loads : (words : List (List ℕ)) (i : ℕ) (word : List ℕ) → i < length words → word ≡ get_or words i word → ((l : Load) → IsLoad word l.bucket l.file → ⊥) → (loads : List Load) → AreLoads words loads → ⊥
no_loads [] i word within is none loads h = omega (arith, within)
no_loads (w ∷ words) i word within is none [] h = h
no_loads (w ∷ words) zero word within is none (l ∷ loads) h = none l (subst (λ x. IsLoad x l.bucket l.file) (sym is) h.0)
no_loads (w ∷ words) (suc i) word within is none (l ∷ loads) h = no_loads words i word (omega (arith, within)) is none loads h.1

-- what is known of what words say is known of the words
pub run_said : (words : List (List ℕ)) (said : Said) (r : Result (Option Command) Memory) → says reading.Open words ≡ Some said
    → IfOk r (λ o. MatchOption o ((c : Command) → Commands said c → ⊥) (λ c. Commands said c))
    → IfOk r (λ o. MatchOption o ((c : Command) → IsRun words c → ⊥) (λ c. IsRun words c))
run_said words said (Err e) is h = tt
run_said words said (Ok None) is h = λ c k.
    let both : Some k.said ≡ Some said = sym k.says_it ∙ is in
    let same : k.said ≡ said = cc both in
    h c (subst (λ s. Commands s c) same k.commands)
run_said words said (Ok (Some c)) is h = record { said = said; says_it = is; commands = h }

-- a word that was read as a load
pub loaded_word : (word w bucket b file f : List ℕ) → w ≡ word → b ≡ bucket → f ≡ file → IsLoad w bucket file → IsLoad word b f
loaded_word word w bucket b file f e d g h = subst (λ x. IsLoad x b f) e (subst (λ x. IsLoad w x f) (sym d) (subst (λ x. IsLoad w bucket x) (sym g) h))

-- the words behind the first
abbrev pub behind_first : List (List ℕ) → List (List ℕ)
behind_first words = take (length words - 1) (drop 1 words)

one_less : (n : ℕ) → suc n - 1 ≡ n
one_less n = omega arith

pub one : (words : List (List ℕ)) (first : List ℕ) → 1 ≤ length words → first ≡ get_or words 0 first → words ≡ first ∷ behind_first words
one [] first long e = absurd (omega (arith, long))
one (a ∷ rest) first long e =
    let same : rest ≡ take (length (a ∷ rest) - 1) rest = sym (ap (λ n. take n rest) (one_less (length rest)) ∙ take-length rest) in
    λ i. sym e i ∷ same i

-- what is known of the words behind `run` is known of all words
pub lifted : (words rest : List (List ℕ)) (r : Result (Option Command) Memory) → words ≡ codes "run" ∷ rest
    → IfOk r (λ o. MatchOption o ((c : Command) → IsRun rest c → ⊥) (λ c. IsRun rest c))
    → IfOk r (λ o. MatchOption o ((c : Command) → IsCommand words c → ⊥) (λ c. IsCommand words c))
lifted words rest (Err e) is h = tt
lifted words rest (Ok None) is h = λ c k.
    let same : codes "run" ∷ rest ≡ codes "run" ∷ k.rest = sym is ∙ k.spelled in
    let behind : rest ≡ k.rest = cc in
    h c (rw behind k.run)
lifted words rest (Ok (Some c)) is h = record { rest = rest; spelled = is; run = h }
