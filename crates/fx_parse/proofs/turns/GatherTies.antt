-- What the loops over parameters and over a block's assignments gather is what the readings give.
use Rattle.std.proofs.Common.{◌≡◌, ℕ, zero, suc, Bool, true, false, cond, List, [], ◌∷◌, Result, Ok, Err, refl, sym, ap, ◌∙◌}
use Rattle.fx_ast.specs.Shape.{OfParam, OfProp, params_of, props_of}
use Rattle.fx_ast.proofs.ListLaws.{ahead_push, params_end, props_end}
use Rattle.fx_ast.specs.Tree.{Tree, Default, Params, Props, no_params, more_params, no_props, more_props}
use Rattle.fx_scan.specs.declared.symbols.Symbol.TheVariants as symbol
use Rattle.fx_scan.specs.declared.words.Word.TheVariants as word
use Rattle.fx_parse.specs.declared.item.Item.{Item}
use Rattle.fx_parse.specs.declared.stop.Stop.{Stop}
use Rattle.fx_parse.specs.declared.stop.Stop.TheVariants as stop
use Rattle.fx_ast.specs.Lists.{ahead, prop_before, param_before}
use Rattle.fx_parse.specs.Closing.{closing}
use Rattle.fx_parse.specs.Cursor.{Gives}
use Rattle.fx_parse.specs.Gathering.{with_param, with_prop, params_from, block_from, read_param, read_binding, read_return}
use Rattle.fx_parse.specs.Items.{Items, passes, first, label, is_name, is_symbol, is_word}
use Rattle.fx_parse.specs.ReadFunctions.{read_default, read_more_params, read_params, read_block}
use Rattle.fx_parse.specs.Readings.{Out, Got, Bad, mapped, go_on, both, token}
use Rattle.fx_parse.proofs.turns.ListTurns.{mapped_twice}

-- a function gives under a map what it gives
pub gives_mapped : {A B C : Type 0} (f : A → B) (h : B → C) (o : Out B) (o' : Out C) (r : Result A Stop) (new : Items) → mapped h o ≡ o' → Gives f o r new → Gives (λ a. h (f a)) o' r new
gives_mapped f h o o' (Ok a) new same g = sym same ∙ ap (mapped h) g
gives_mapped f h o o' (Err stop.Memory) new same g = tt
gives_mapped f h o o' (Err (stop.Refused deep)) new same g = sym same ∙ ap (mapped h) g

abbrev row : List ℕ → Tree → List ℕ × Tree
row x e = (x, e)

-- what was read, beside what is read after it
abbrev held : {A B : Type 0} → A → Out B → Out (A × B)
held a o = mapped (λ b. (a, b)) o

-- ---- parameters

abbrev pub before : List OfParam → Params → Params
before = ahead param_before

before_none : (found : List OfParam) → params_of found ≡ before found no_params
before_none found = sym (params_end found)

pushed : (found : List OfParam) (p : List ℕ × Default × Bool) (ps : Params) → before (with_param found p) ps ≡ before found (more_params p.0 p.1 ps)
pushed found p ps = ahead_push param_before found (record { label = p.0; default = p.1 }) ps

close_token : Items → Out Item
close_token = token (is_symbol symbol.CloseParen)

shift : (found : List OfParam) (p : List ℕ × Default × Bool) (o : Out Params) → mapped (before (with_param found p)) o ≡ mapped (before found) (mapped (more_params p.0 p.1) o)
shift found p (Got ps r) = ap (λ z. Got z r) (pushed found p ps)
shift found p (Bad d r) = refl

-- what stands after a default
closing_is : (again : Items → Out Params) (r : Items) → read_more_params again r ≡ go_on (closing (is_symbol symbol.CloseParen) r) (λ last q. cond last (Got no_params q) (again q))
unfolding read_more_params
closing_is again r = elim (passes (is_symbol symbol.CloseParen) (first r)) as (λ b.
    cond b (mapped (λ y. no_params) (token (is_symbol symbol.CloseParen) r)) (mapped (λ p. p.1) (both (token (is_symbol symbol.Comma)) (λ y. again) r))
    ≡ go_on (cond b (mapped (λ y. true) (token (is_symbol symbol.CloseParen) r)) (mapped (λ y. false) (token (is_symbol symbol.Comma) r))) (λ last q. cond last (Got no_params q) (again q))) [
      | true ↦ closed (token (is_symbol symbol.CloseParen) r)
      | false ↦ comma (token (is_symbol symbol.Comma) r)
    ]
  where
    closed : (o : Out Item) → mapped (λ y. no_params) o ≡ go_on (mapped (λ y. true) o) (λ last q. cond last (Got no_params q) (again q))
    closed (Got y q) = refl
    closed (Bad d q) = refl

    second : (y : Item) (o : Out Params) → mapped (λ (p : Item × Params). p.1) (held y o) ≡ o
    second y (Got ps q) = refl
    second y (Bad d q) = refl

    comma : (o : Out Item) → mapped (λ (p : Item × Params). p.1) (go_on o (λ y q. held y (again q))) ≡ go_on (mapped (λ y. false) o) (λ last q. cond last (Got no_params q) (again q))
    comma (Got y q) = second y (again q)
    comma (Bad d q) = refl

J : Item × (Default × Params) → Params
J p = more_params (label p.0) p.1.0 p.1.1

-- what the turn's part makes of what the turns after it read
rest_of : (Items → Out Params) → List ℕ × Default × Bool → Items → Out Params
rest_of again p r = mapped (more_params p.0 p.1) (cond p.2 (Got no_params r) (again r))

named_is : (again : Items → Out Params) (x : Item) (o : Out Default)
    → mapped J (held x (go_on o (λ d r. held d (read_more_params again r))))
    ≡ go_on (mapped (λ (p : Item × (Default × Bool)). (label p.0, p.1.0, p.1.1)) (held x (go_on o (λ d r. held d (closing (is_symbol symbol.CloseParen) r))))) (rest_of again)
unfolding J rest_of
named_is again x (Bad d r) = refl
named_is again x (Got d r) = rw (closing_is again r) (parts (closing (is_symbol symbol.CloseParen) r))
  where
    joined : (o : Out Params) → mapped J (held x (held d o)) ≡ mapped (more_params (label x) d) o
    joined (Got ps q) = refl
    joined (Bad e q) = refl

    parts : (o : Out Bool) → mapped J (held x (held d (go_on o (λ last q. cond last (Got no_params q) (again q)))))
        ≡ go_on (mapped (λ (p : Item × (Default × Bool)). (label p.0, p.1.0, p.1.1)) (held x (held d o))) (rest_of again)
    parts (Got last q) = joined (cond last (Got no_params q) (again q))
    parts (Bad e q) = refl

next_is : (inner : Items → Out Tree) (again : Items → Out Params) (w : Items)
    → mapped (λ p. more_params (label p.0) p.1.0 p.1.1) (both (token is_name) (λ x. both (read_default inner) (λ d. read_more_params again)) w) ≡ go_on (read_param inner w) (rest_of again)
unfolding read_param J rest_of
next_is inner again w = names (token is_name w)
  where
    names : (o : Out Item) → mapped (λ (p : Item × (Default × Params)). more_params (label p.0) p.1.0 p.1.1) (go_on o (λ x r. held x (both (read_default inner) (λ d. read_more_params again) r)))
        ≡ go_on (mapped (λ (p : Item × (Default × Bool)). (label p.0, p.1.0, p.1.1)) (go_on o (λ x r. held x (both (read_default inner) (λ d. closing (is_symbol symbol.CloseParen)) r)))) (rest_of again)
    names (Got x r) = named_is again x (read_default inner r)
    names (Bad d r) = refl

turn_is : (found : List OfParam) (p : List ℕ × Default × Bool) (r : Items) (G : Out (List OfParam)) (R : Out Params) → mapped params_of G ≡ mapped (before (with_param found p)) R → (b : Bool)
    → mapped params_of (cond b (Got (with_param found p) r) G) ≡ mapped (before found) (mapped (more_params p.0 p.1) (cond b (Got no_params r) R))
turn_is found p r G R same true = ap (λ z. Got z r) (before_none (with_param found p) ∙ pushed found p no_params)
turn_is found p r G R same false = same ∙ shift found p R

pub params_tie : (inner : Items → Out Tree) (n : ℕ) (found : List OfParam) (w : Items) → mapped params_of (params_from inner n found w) ≡ mapped (before found) (read_params inner n w)
unfolding params_from read_params rest_of
params_tie inner zero found w = refl
params_tie inner (suc n) found w = rw (next_is inner (read_params inner n) w)
    (elim (passes (is_symbol symbol.CloseParen) (first w)) as (λ b.
    mapped params_of (cond b (mapped (λ y. found) (token (is_symbol symbol.CloseParen) w)) (go_on (read_param inner w) (λ p r. cond p.2 (Got (with_param found p) r) (params_from inner n (with_param found p) r))))
    ≡ mapped (before found) (cond b (mapped (λ y. no_params) (token (is_symbol symbol.CloseParen) w)) (go_on (read_param inner w) (rest_of (read_params inner n))))) [
      | true ↦ ends (token (is_symbol symbol.CloseParen) w)
      | false ↦ turns (λ f r. params_tie inner n f r) (read_param inner w)
    ])
  where
    ends : (o : Out Item) → mapped params_of (mapped (λ y. found) o) ≡ mapped (before found) (mapped (λ y. no_params) o)
    ends (Got y r) = ap (λ z. Got z r) (before_none found)
    ends (Bad d r) = refl

    turns : ((f : List OfParam) (r : Items) → mapped params_of (params_from inner n f r) ≡ mapped (before f) (read_params inner n r)) → (o : Out (List ℕ × Default × Bool)) → mapped params_of (go_on o (λ p r. cond p.2 (Got (with_param found p) r) (params_from inner n (with_param found p) r)))
        ≡ mapped (before found) (go_on o (rest_of (read_params inner n)))
    turns ih (Got p r) = turn_is found p r (params_from inner n (with_param found p) r) (read_params inner n r) (ih (with_param found p) r) p.2
    turns ih (Bad d r) = refl

unchanged : {A : Type 0} (o : Out A) → mapped (λ x. x) o ≡ o
unchanged (Got a r) = refl
unchanged (Bad d r) = refl

pub params_read : (inner : Items → Out Tree) (n : ℕ) (w : Items) → mapped params_of (params_from inner n [] w) ≡ read_params inner n w
params_read inner n w = params_tie inner n [] w ∙ unchanged (read_params inner n w)

-- ---- blocks

abbrev pub pair_of : Props → Tree → Props × Tree
pair_of ps e = (ps, e)

abbrev pub block_before : List OfProp → Props × Tree → Props × Tree
block_before found p = (ahead prop_before found p.0, p.1)

abbrev pub seen_block : List OfProp × Tree → Props × Tree
seen_block p = (props_of p.0, p.1)

props_none : (found : List OfProp) → props_of found ≡ ahead prop_before found no_props
props_none found = sym (props_end found)

block_shift : (found : List OfProp) (p : List ℕ × Tree) (o : Out (Props × Tree)) → mapped (block_before (with_prop found p)) o ≡ mapped (block_before found) (mapped (λ b. pair_of (more_props p.0 p.1 b.0) b.1) o)
block_shift found p (Got b r) = ap (λ (z : Props). Got (z, b.1) r) (ahead_push prop_before found (record { label = p.0; value = p.1 }) b.0)
block_shift found p (Bad d r) = refl

-- a binding and the block after it
binding_is : (inner : Items → Out Tree) (again : Items → Out (Props × Tree)) (w : Items)
    → mapped (λ p. pair_of (more_props (label p.0) p.1.1.0 p.1.1.1.0) p.1.1.1.1) (both (token is_name) (λ x. both (token (is_symbol symbol.Assign)) (λ y. both inner (λ a. again))) w)
    ≡ go_on (read_binding inner w) (λ (p : List ℕ × Tree) (r : Items). mapped (λ (b : Props × Tree). pair_of (more_props p.0 p.1 b.0) b.1) (again r))
unfolding read_binding
binding_is inner again w = names (token is_name w)
  where
    values : (x y : Item) (o : Out Tree) → mapped (λ (p : Item × (Item × (Tree × (Props × Tree)))). pair_of (more_props (label p.0) p.1.1.0 p.1.1.1.0) p.1.1.1.1) (held x (held y (go_on o (λ a r. held a (again r)))))
        ≡ go_on (mapped (λ (p : Item × (Item × Tree)). row (label p.0) p.1.1) (held x (held y o))) (λ (p : List ℕ × Tree) (r : Items). mapped (λ (b : Props × Tree). pair_of (more_props p.0 p.1 b.0) b.1) (again r))
    values x y (Bad d r) = refl
    values x y (Got a r) = tail (again r)
      where
        tail : (o : Out (Props × Tree)) → mapped (λ (p : Item × (Item × (Tree × (Props × Tree)))). pair_of (more_props (label p.0) p.1.1.0 p.1.1.1.0) p.1.1.1.1) (held x (held y (held a o)))
            ≡ mapped (λ (b : Props × Tree). pair_of (more_props (label x) a b.0) b.1) o
        tail (Got b q) = refl
        tail (Bad d q) = refl

    equals : (x : Item) (o : Out Item) → mapped (λ (p : Item × (Item × (Tree × (Props × Tree)))). pair_of (more_props (label p.0) p.1.1.0 p.1.1.1.0) p.1.1.1.1) (held x (go_on o (λ y r. held y (both inner (λ a. again) r))))
        ≡ go_on (mapped (λ (p : Item × (Item × Tree)). row (label p.0) p.1.1) (held x (go_on o (λ y r. held y (inner r))))) (λ (p : List ℕ × Tree) (r : Items). mapped (λ (b : Props × Tree). pair_of (more_props p.0 p.1 b.0) b.1) (again r))
    equals x (Got y r) = values x y (inner r)
    equals x (Bad d r) = refl

    names : (o : Out Item) → mapped (λ (p : Item × (Item × (Tree × (Props × Tree)))). pair_of (more_props (label p.0) p.1.1.0 p.1.1.1.0) p.1.1.1.1) (go_on o (λ x r. held x (both (token (is_symbol symbol.Assign)) (λ y. both inner (λ a. again)) r)))
        ≡ go_on (mapped (λ (p : Item × (Item × Tree)). row (label p.0) p.1.1) (go_on o (λ x r. held x (both (token (is_symbol symbol.Assign)) (λ y. inner) r)))) (λ (p : List ℕ × Tree) (r : Items). mapped (λ (b : Props × Tree). pair_of (more_props p.0 p.1 b.0) b.1) (again r))
    names (Got x r) = equals x (token (is_symbol symbol.Assign) r)
    names (Bad d r) = refl

-- what is returned, with no assignment before it
return_is : (inner : Items → Out Tree) (w : Items) → mapped (λ p. pair_of no_props p.1.0) (both (token (is_word word.Return)) (λ x. both inner (λ e. token (is_symbol symbol.CloseBrace))) w) ≡ mapped (λ e. pair_of no_props e) (read_return inner w)
unfolding read_return
return_is inner w = sym (mapped_twice (λ (e : Tree). pair_of no_props e) (λ (p : Item × (Tree × Item)). p.1.0) (both (token (is_word word.Return)) (λ x. both inner (λ e. token (is_symbol symbol.CloseBrace))) w))

pub block_tie : (inner : Items → Out Tree) (n : ℕ) (found : List OfProp) (w : Items) → mapped seen_block (block_from inner n found w) ≡ mapped (block_before found) (read_block inner n w)
unfolding block_from read_block
block_tie inner zero found w = refl
block_tie inner (suc n) found w = rw (return_is inner w, binding_is inner (read_block inner n) w)
    (elim (passes (is_word word.Return) (first w)) as (λ b.
    mapped seen_block (cond b (mapped (λ e. (found, e)) (read_return inner w)) (go_on (read_binding inner w) (λ p r. block_from inner n (with_prop found p) r)))
    ≡ mapped (block_before found) (cond b (mapped (λ e. pair_of no_props e) (read_return inner w)) (go_on (read_binding inner w) (λ (p : List ℕ × Tree) (r : Items). mapped (λ (b : Props × Tree). pair_of (more_props p.0 p.1 b.0) b.1) (read_block inner n r))))) [
      | true ↦ ends (read_return inner w)
      | false ↦ turns (λ f r. block_tie inner n f r) (read_binding inner w)
    ])
  where
    ends : (o : Out Tree) → mapped seen_block (mapped (λ e. (found, e)) o) ≡ mapped (block_before found) (mapped (λ e. pair_of no_props e) o)
    ends (Got e r) = ap (λ (z : Props). Got (z, e) r) (props_none found)
    ends (Bad d r) = refl

    turns : ((f : List OfProp) (r : Items) → mapped seen_block (block_from inner n f r) ≡ mapped (block_before f) (read_block inner n r)) → (o : Out (List ℕ × Tree)) → mapped seen_block (go_on o (λ p r. block_from inner n (with_prop found p) r))
        ≡ mapped (block_before found) (go_on o (λ (p : List ℕ × Tree) (r : Items). mapped (λ (b : Props × Tree). pair_of (more_props p.0 p.1 b.0) b.1) (read_block inner n r)))
    turns ih (Got p r) = ih (with_prop found p) r ∙ block_shift found p (read_block inner n r)
    turns ih (Bad d r) = refl

pub block_read : (inner : Items → Out Tree) (n : ℕ) (w : Items) → mapped seen_block (block_from inner n [] w) ≡ read_block inner n w
block_read inner n w = block_tie inner n [] w ∙ unchanged (read_block inner n w)
