-- The patterns that an evaluation may ask.
use Rattle.std.specs.Prelude.{ℕ, Bool, List, map}
use Rattle.fx_meaning.specs.Meaning.{Tests}
use Rattle.fx_meaning.specs.declared.setting.Placed.{Placed}
use Rattle.fx_value.specs.Calls.{heard}

-- the numbers of the patterns that an evaluation may ask
abbrev pub numbers_of : List Placed → List ℕ
numbers_of known = map (λ p. p.number) known

-- what is heard of them
abbrev pub hears : List Placed → (ℕ → List ℕ → Bool) → Tests
hears known test = heard (numbers_of known) test
