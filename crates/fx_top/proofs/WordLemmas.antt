-- The words of a command line, read from left to right.
use Rattle.std.proofs.Common.{◌≡◌, ℕ, ◌+◌, ◌<◌, ◌≤◌, List, ◌∷◌, length, drop, get_or, Option, None, Some, refl, sym, ◌∙◌, ap, append_assoc, append-nil, add-one}
use Rattle.std.proofs.Math.Seq.{drop-cons}
use Rattle.std.proofs.lemmas.List.{drop_all}
use Rattle.fx_top.specs.declared.words.Reading.{Reading}
use Rattle.fx_top.specs.declared.words.Said.{Said}
use Rattle.fx_top.specs.Words.{Heard, Hears, ended, heard, joined, nothing, says, then_says, with_more}

pub nothing_more : (o : Option Said) → with_more nothing o ≡ o
nothing_more None = refl
nothing_more (Some s) = refl

more_of_nothing : (s : Said) → joined s nothing ≡ s
more_of_nothing s = λ i. record { words = append-nil s.words i; nows = append-nil s.nows i; precisions = append-nil s.precisions i; skips = append-nil s.skips i }

more_and_more : (a b : Said) (o : Option Said) → with_more a (with_more b o) ≡ with_more (joined a b) o
more_and_more a b None = refl
more_and_more a b (Some c) = λ i. Some (record {
  words = sym (append_assoc a.words b.words c.words) i;
  nows = sym (append_assoc a.nows b.nows c.nows) i;
  precisions = sym (append_assoc a.precisions b.precisions c.precisions) i;
  skips = sym (append_assoc a.skips b.skips c.skips) i;
})

heard_on : (h : Option Heard) (old new : Said) (next : Reading) (rest : Reading → Option Said) → Hears h old new (Some next) → with_more old (then_says h rest) ≡ with_more new (rest next)
heard_on None old new next rest heard = absurd heard
heard_on (Some h) old new next rest heard = more_and_more old h.said (rest h.next) ∙ (λ i. with_more (sym heard.1 i) (rest (sym heard.0 i)))

unheard : (h : Option Heard) (old new : Said) (rest : Reading → Option Said) → Hears h old new None → with_more old (then_says h rest) ≡ None
unheard None old new rest heard = refl
unheard (Some h) old new rest heard = absurd heard

-- the words from a place on begin with the word there
from_place : (words : List (List ℕ)) (i : ℕ) (word : List ℕ) → i < length words → word ≡ get_or words i word → drop i words ≡ word ∷ drop (i + 1) words
from_place words i word within is = drop-cons words i word within ∙ (λ j. sym is j ∷ drop (sym (add-one i) j) words)

pub says_on : (words : List (List ℕ)) (i : ℕ) (word : List ℕ) (r next : Reading) (old new : Said) (all : Option Said) → i < length words → word ≡ get_or words i word → Hears (heard r word) old new (Some next)
    → all ≡ with_more old (says r (drop i words)) → all ≡ with_more new (says next (drop (i + 1) words))
says_on words i word r next old new all within is h had =
    had ∙ ap (λ ws. with_more old (says r ws)) (from_place words i word within is) ∙ heard_on (heard r word) old new next (λ n. says n (drop (i + 1) words)) h

pub says_none : (words : List (List ℕ)) (i : ℕ) (word : List ℕ) (r : Reading) (old new : Said) (all : Option Said) → i < length words → word ≡ get_or words i word → Hears (heard r word) old new None
    → all ≡ with_more old (says r (drop i words)) → None ≡ all
says_none words i word r old new all within is h had =
    sym (had ∙ ap (λ ws. with_more old (says r ws)) (from_place words i word within is) ∙ unheard (heard r word) old new (λ n. says n (drop (i + 1) words)) h)

-- no word is left
pub says_ended : (words : List (List ℕ)) (i : ℕ) (r : Reading) (said : Said) (all : Option Said) → length words ≤ i → all ≡ with_more said (says r (drop i words)) → all ≡ with_more said (ended r)
says_ended words i r said all past had = had ∙ ap (λ ws. with_more said (says r ws)) (drop_all i words past)

pub says_all : (said : Said) (all : Option Said) → all ≡ with_more said (Some nothing) → Some said ≡ all
says_all said all had = sym (had ∙ ap (λ s. Some s) (more_of_nothing said))
