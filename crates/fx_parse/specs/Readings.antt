-- What the parser does with a list of items, and how readings are put together.
use Rattle.std.specs.Prelude.{Bool, false, true, cond, ℕ, zero, suc, [], ◌∷◌}
use Rattle.fx_parse.specs.declared.item.Item.{Item}
use Rattle.fx_parse.specs.Items.{Items, passes, first}

-- what was read, and the items after it; or that the first of the items left is refused, and whether a tree of more levels
-- would go on with it
pub data Out (A : Type 0) : Type 0 where
  Got : (what : A) → (rest : Items) → Out A
  Bad : (deep : Bool) → (rest : Items) → Out A

abbrev pub mapped : {A B : Type 0} → (A → B) → Out A → Out B
mapped f (Got a r) = Got (f a) r
mapped f (Bad d r) = Bad d r

abbrev pub go_on : {A B : Type 0} → Out A → (A → Items → Out B) → Out B
go_on (Got a r) g = g a r
go_on (Bad d r) g = Bad d r

-- one reading after another, which may hang on what the first read
abbrev pub both : {A B : Type 0} → (Items → Out A) → (A → Items → Out B) → Items → Out (A × B)
both f g w = go_on (f w) (λ a r. mapped (λ b. (a, b)) (g a r))

abbrev pub token : (Item → Bool) → Items → Out Item
token test [] = Bad false []
token test (x ∷ w) = cond (test x) (Got x w) (Bad false (x ∷ w))

-- ---- links after an operand: a state that each of them changes, and what they make together

pub record Chaining (S B C : Type 0) : Type 0 where
  -- what begins a link
  pub is_link : Item → Bool
  -- there are levels enough for a link that begins so
  pub room : S → Item → Bool
  -- no further link is needed, and what is made then
  pub final : S → Bool
  pub end : S → C
  pub step : S → B → S
  pub join : B → C → C
  pub link : Items → Out B

abbrev pub finish : {S B C : Type 0} → Chaining S B C → S → Items → Out C
finish c s w = cond (c.final s) (Got (c.end s) w) (Bad false w)

-- at most so many links
abbrev pub links : {S B C : Type 0} → Chaining S B C → ℕ → S → Items → Out C
links c zero s w = finish c s w
links c (suc n) s w = cond (passes c.is_link (first w))
    (cond (passes (c.room s) (first w)) (mapped (λ p. c.join p.0 p.1) (both c.link (λ b r. links c n (c.step s b) r) w)) (Bad true w))
    (finish c s w)
