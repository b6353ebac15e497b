-- What becomes of a left row.
use Rattle.std.proofs.Common.{◌≡◌, ◌≤◌, Bool, List, [], ◌++◌, map, filter_map, sym, ap, ◌∙◌, append_assoc}
use Rattle.std.proofs.lemmas.List.{append-nil, map-append}
use Rattle.std.proofs.lemmas.List.Elements.{filter_map-append}
use Rattle.std.specs.Prelude.{Option}
use Rattle.std.specs.Option.{is_some}
use Rattle.std.specs.FinMap as fin
use Rattle.fx_base.specs.declared.meter.Meter.{Meter}
use Rattle.fx_group.specs.Answer.{Row, Meaning}
use Rattle.fx_join.specs.Join.{made_if, found_row, found_line, is_lone, longer, lone_left}
use Rattle.fx_join.specs.Part.{with_found}
use Rattle.fx_join.specs.declared.line.Line.{Line}
use Rattle.fx_join.specs.declared.side.Side.{Side}
use Rattle.fx_value.specs.Ends.{Gives, and_then}
use Rattle.fx_value.specs.Works.{flat_each, into}
use Rattle.fx_value.proofs.Loops.{Goes, goes_begins, goes_along}

-- pairs in two parts, one after the other
pub found_more : (x : Line) (os ps : List (Option Row)) → with_found x (os ++ ps) ≡ with_found (with_found x os) ps
found_more x os ps =
    let rows : x.rows ++ filter_map (λ o. o) (os ++ ps) ≡ (x.rows ++ filter_map (λ o. o) os) ++ filter_map (λ o. o) ps
    = ap (λ (rs : List Row). x.rows ++ rs) (filter_map-append (λ o. o) os ps) ∙ sym (append_assoc x.rows (filter_map (λ o. o) os) (filter_map (λ o. o) ps)) in
    let hits : x.hits ++ map is_some (os ++ ps) ≡ (x.hits ++ map is_some os) ++ map is_some ps
    = ap (λ (hs : List Bool). x.hits ++ hs) (map-append is_some os ps) ∙ sym (append_assoc x.hits (map is_some os) (map is_some ps)) in
    λ i. record { rows = rows i; hits = hits i }

pub found_none : (x : Line) → with_found x [] ≡ x
found_none x = λ i. record { rows = append-nil x.rows i; hits = append-nil x.hits i }

-- all right rows are ahead
pub line_begins : (on both : Meaning) (l : Row) (rights : List Row) (x : Line) (meter : Meter) → meter.spent ≤ meter.budget → x.rows ≡ [] → x.hits ≡ []
    → Goes (found_line on both rights l) (λ n. into with_found x (flat_each (found_row on both l n) rights)) meter meter
line_begins on both l rights x meter within rows hits =
    goes_along (found_line on both rights l) (found_line on both rights l) (λ n. into with_found x (flat_each (found_row on both l n) rights)) meter meter
    (λ n i. into with_found (record { rows = sym rows i; hits = sym hits i }) (flat_each (found_row on both l n) rights))
    (goes_begins (found_line on both rights l) meter within)

-- the row of the left row alone is ahead
pub lone_ahead : (both : Meaning) (side : Side) (l : Row) (x : Line) (wanted : Bool) (meter : Meter) → meter.spent ≤ meter.budget → wanted ≡ is_lone side x
    → Goes (λ n. lone_left both side l n x) (λ n. and_then (made_if both n l fin.empty wanted) (λ row. Gives (longer x row) 0)) meter meter
lone_ahead both side l x wanted meter within is =
    goes_along (λ n. lone_left both side l n x) (λ n. lone_left both side l n x) (λ n. and_then (made_if both n l fin.empty wanted) (λ row. Gives (longer x row) 0)) meter meter
    (λ n i. and_then (made_if both n l fin.empty (sym is i)) (λ row. Gives (longer x row) 0))
    (goes_begins (λ n. lone_left both side l n x) meter within)
