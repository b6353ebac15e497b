-- The tables of a query.
use Rattle.std.proofs.Common.{◌≡◌, ℕ, ℤ, ◌+◌, ◌<◌, ◌≤◌, Bool, true, false, ◌&&◌, List, [], ◌∷◌, ◌++◌, map, filter, length, take, get_or, cond, refl, ◌∙◌, ap, arith, pos, zero, suc}
use Rattle.std.specs.Prelude.{int_le, int_lt, ◌≤ℤ◌, ◌-ℤ◌, Some}
use Rattle.std.specs.List.{slice_get}
use Rattle.std.proofs.lemmas.Int.{ints}
use Rattle.fx_value.specs.declared.scalar.Scalar.{Scalar}
use Rattle.fx_line.specs.Stored.{Series}
use Rattle.fx_series.specs.Read.{between}
use Rattle.std.specs.Option.{option_map}
use Rattle.std.specs.List.{AllByRecursion, filter_map, cons_option}
use Rattle.std.proofs.lemmas.List.{take_more, take_all}
use Rattle.std.proofs.lemmas.List.Elements.{filter_map-append, filter-append}
use Rattle.fx_value.specs.declared.scalar.Scalar.TheVariants as scalar
use Rattle.fx_data.specs.declared.table.Table.{Table}
use Rattle.fx_data.specs.Table.{IsLawfulTable}
use Rattle.fx_data.proofs.SharedKeys.{shared_is_lawful}
use Rattle.fx_top.specs.declared.query.Query.{Query}
use Rattle.fx_top.specs.Run.{is_within, table_of, has_rows, columns_of}

-- what lies before `stop` lies up to the moment before it
before_stop : (t stop : ℤ) → int_le t (stop -ℤ pos 1) ≡ int_lt t stop
before_stop t stop = grind (arith, ints)

pub between_is_within : (start stop : ℤ) (values : List (ℤ × Scalar)) → between start (stop -ℤ pos 1) values ≡ filter (is_within start stop) values
between_is_within start stop [] = refl
between_is_within start stop (v ∷ values) = rw (before_stop v.0 stop, between_is_within start stop values) refl

-- nothing lies in a range that ends where it begins or before
none_in : (start stop t : ℤ) → stop ≤ℤ start → (int_le start t && int_lt t stop) ≡ false
none_in start stop t h = grind (arith, ints)

pub none_within : (start stop : ℤ) (values : List (ℤ × Scalar)) → stop ≤ℤ start → filter (is_within start stop) values ≡ []
none_within start stop [] h = refl
none_within start stop (v ∷ values) h = rw (none_in start stop v.0 h, none_within start stop values h) refl

-- the tables of the series with some numbers
abbrev pub tables_at : Query → List Series → List ℕ → List Table
tables_at q series ns = filter has_rows (filter_map (λ n. option_map (table_of q) (slice_get series n)) ns)

there : (series : List Series) (n : ℕ) → n < length series → (s : Series) × (slice_get series n ≡ Some s)
there [] n h = absurd (omega arith)
there (s ∷ series) zero h = (s, refl)
there (s ∷ series) (suc n) h = there series n (omega arith)

-- one number more
pub tables_more : (q : Query) (series : List Series) (ns : List ℕ) (i n : ℕ) (t : Table) → i < length ns → n ≡ get_or ns i n → n < length series
    → ((s : Series) → slice_get series n ≡ Some s → t ≡ table_of q s) → tables_at q series (take i ns) ++ filter has_rows (t ∷ []) ≡ tables_at q series (take (i + 1) ns)
tables_more q series ns i n t below is within table =
    let s = there series n within in
    let here : filter_map (λ m. option_map (table_of q) (slice_get series m)) (n ∷ []) ≡ t ∷ [] = rw (s.1, ← table s.0 s.1) refl in
    rw (take_more ns i n below, ← is, filter_map-append, filter-append, here) refl

kept_all : (q : Query) (wanted : List Series) → filter_map (option_map (table_of q)) (map (λ s. Some s) wanted) ≡ map (table_of q) wanted
kept_all q [] = refl
kept_all q (s ∷ wanted) = ap (λ ts. table_of q s ∷ ts) (kept_all q wanted)

apart : (q : Query) (series : List Series) (ns : List ℕ) → filter_map (λ n. option_map (table_of q) (slice_get series n)) ns ≡ filter_map (option_map (table_of q)) (map (slice_get series) ns)
apart q series [] = refl
apart q series (n ∷ ns) = ap (λ ts. cons_option (option_map (table_of q) (slice_get series n)) ts) (apart q series ns)

-- all numbers of the wanted series
pub tables_all : (q : Query) (series wanted : List Series) (ns : List ℕ) → map (slice_get series) ns ≡ map (λ s. Some s) wanted → tables_at q series ns ≡ filter has_rows (map (table_of q) wanted)
tables_all q series wanted ns found = ap (filter has_rows) (apart q series ns ∙ ap (filter_map (option_map (table_of q))) found ∙ kept_all q wanted)

kept_lawful : (b : Bool) (t : Table) (ts : List Table) → IsLawfulTable t → AllByRecursion IsLawfulTable ts → AllByRecursion IsLawfulTable (cond b (t ∷ ts) ts)
kept_lawful true t ts h hs = (h, hs)
kept_lawful false t ts h hs = hs

-- each table of a run is lawful
pub tables_lawful : (q : Query) (wanted : List Series) → AllByRecursion IsLawfulTable (filter has_rows (map (table_of q) wanted))
tables_lawful q [] = tt
tables_lawful q (s ∷ wanted) =
    kept_lawful (has_rows (table_of q s)) (table_of q s) (filter has_rows (map (table_of q) wanted))
    (shared_is_lawful (columns_of q s.id.key) (λ v. scalar.Time v.0) (λ v. v.1) (filter (is_within q.start q.stop) s.values)) (tables_lawful q wanted)

-- the tables of all numbers that were found, where the last of them is passed
pub tables_found : (q : Query) (series wanted : List Series) (items ns : List ℕ) (i : ℕ) (tables : List Table) → tables ≡ tables_at q series (take i items) → length items ≤ i → items ≡ ns → map (slice_get series) ns ≡ map (λ s. Some s) wanted
    → tables ≡ filter has_rows (map (table_of q) wanted)
tables_found q series wanted items ns i tables h past is found =
    h ∙ ap (tables_at q series) (take_all i items past ∙ is) ∙ tables_all q series wanted ns found

-- within a list the default doesn't count
pub get_or-other : (ns : List ℕ) (i d e : ℕ) → i < length ns → get_or ns i d ≡ get_or ns i e
get_or-other [] i d e h = absurd (omega arith)
get_or-other (n ∷ ns) zero d e h = refl
get_or-other (n ∷ ns) (suc i) d e h = get_or-other ns i d e (omega arith)
