-- What types count by their parts.
use Rattle.std.proofs.Common.{◌≡◌, refl, sym, ap, subst, ◌∙◌, ℕ, ◌+◌, ◌-◌, ◌≤◌, true, false, List, [], ◌∷◌, Result, Ok, Err, arith}
use Rattle.std.specs.Prelude.{if◌then◌else◌}
use Rattle.fx_types.specs.Term.{Label}
use Rattle.fx_types.specs.Ground.{Ground, GroundField, GroundRow, g_bool, g_int, g_text, g_time, g_span, g_pattern, g_done, g_array, g_fun, g_rec, g_stream, g_absent, g_is, is_plain, is_column, listed, IsWellFormed, IsWellFormedField}
use Rattle.fx_types.specs.Instance.{Solution}
use Rattle.fx_types.specs.Size.{AreDistinct, total, AtMost, Weighs, Takes, Pipes}
use Rattle.fx_unify.specs.declared.fault.UnifyFault.{UnifyFault}
use Rattle.fx_unify.specs.declared.fault.UnifyFault.TheVariants as fault
use Rattle.fx_unify.specs.Measure.{Measured, Measuring, RowMeasured, RowMeasuring}
use Rattle.fx_unify.specs.Sums.{Summed, Summing}
use Rattle.fx_unify.proofs.SolvingLaws.{type_is}
use Rattle.fx_unify.proofs.SumLaws.{no_weight}
use Rattle.fx_types.proofs.Choices.{chosen, passed, by_cases}
use Rattle.fx_types.proofs.PartLaws.{more_nodes}
use Rattle.fx_types.proofs.PlainLaws.{plain_formed, plain_weighs, weighs_plain}
use Rattle.fx_unify.proofs.LabelLaws.{fresh_label}

pub some_node : (t : Ground) (n : ℕ) → AtMost t n → 1 ≤ n
some_node (g_array t) n h = omega (arith, h.2)
some_node (g_fun r p t) n h = let few : total h.0 [] + h.1 + h.2 + 1 ≤ n = h.6 [] tt in omega arith
some_node (g_rec r) n h = h.2 [] tt
some_node (g_stream r) n h = h.2 [] tt
some_node g_bool n h = h
some_node g_int n h = h
some_node g_text n h = h
some_node g_time n h = h
some_node g_span n h = h
some_node g_pattern n h = h
some_node g_done n h = h

pub more_weight : (g : GroundField) (a b : ℕ) → Weighs g a → a ≤ b → Weighs g b
more_weight g_absent a b h le = tt
more_weight (g_is t) a b h le = λ e. ((h e).0, (h e).1, (let few : (h e).0 + 1 ≤ a = (h e).2 in omega arith))

pub more_taken : (g : GroundField) (a b : ℕ) → Takes g a → a ≤ b → Takes g b
more_taken g_absent a b h le = tt
more_taken (g_is t) a b h le = (h.0, h.1, (let few : h.0 + 1 ≤ a = h.2 in omega arith))

pub more_piped : (g : GroundField) (a b : ℕ) → Pipes g a → a ≤ b → Pipes g b
more_piped g_absent a b h le = tt
more_piped (g_is t) a b h le = more_nodes t a b h le

module _ (at : ℕ → Solution) (Among : Solution → Type 0) where
  -- no type has no node
  pub no_room : (f : Solution → Ground) (room : ℕ) → room ≡ 0 → Measuring (Err fault.Clash) at Among Pipes (λ s. g_is (f s)) room
  no_room f room e s among formed h = let some : 1 ≤ room = some_node (f s) room h in absurd (omega arith)

  -- what stands for a type of one node in all solutions, and settles
  pub one_node : (f : Solution → Ground) (t : Ground) → ((n : ℕ) → f (at n) ≡ t) → IsWellFormed t → AtMost t 1 → Measured at Among Pipes (λ s. g_is (f s)) 1
  one_node f t same formed h = (g_is t, (0, λ n le. ap g_is (same n)), formed, h, λ s among m c. some_node (f s) m c)

  pub restated_measure : (C : GroundField → ℕ → Type 0) (f g : Solution → GroundField) → ((s : Solution) → f s ≡ g s) → (r : Result ℕ UnifyFault) (room : ℕ)
      → Measuring r at Among C g room → Measuring r at Among C f room
  restated_measure C f g same (Ok n) room h = (
    (h.0.0, (h.0.1.0, λ i le. same (at i) ∙ h.0.1.1 i le), h.0.2, h.0.3, λ s among m c. h.0.4 s among m (subst (λ x. C x m) (same s) c)),
    h.1,
  )
  restated_measure C f g same (Err fault.Clash) room h = λ s among formed c. h s among (subst IsWellFormedField (same s) formed) (subst (λ x. C x room) (same s) c)
  restated_measure C f g same (Err fault.Memory) room h = tt

  -- nothing is counted
  pub counts_none : (C : GroundField → ℕ → Type 0) (f : Solution → GroundField) (g : GroundField) (k room : ℕ) → ((n : ℕ) → k ≤ n → f (at n) ≡ g) → IsWellFormedField g → C g 0
      → Measuring (Ok 0) at Among C f room
  counts_none C f g k room same formed c = ((g, (k, same), formed, c, λ s among m h. omega arith), omega arith)

  pub measured_array : (f : Solution → Ground) (n : ℕ) → Measured at Among Pipes (λ s. g_is (f s)) n → Measured at Among Pipes (λ s. g_is (g_array (f s))) (n + 1)
  measured_array f n h =
      let t : Ground = f (at h.1.0) in
      let is : g_is t ≡ h.0 = h.1.1 h.1.0 (omega arith) in (
        g_is (g_array t),
        (h.1.0, λ i le. ap (λ u. g_is (g_array u)) ((type_is (f (at i)) t).0 (h.1.1 i le ∙ sym is))),
        subst IsWellFormedField (sym is) h.2,
        (n, subst (λ g. Pipes g n) (sym is) h.3, omega arith),
        λ s among m c. (let few : n ≤ c.0 = h.4 s among c.0 c.1 in let le : c.0 + 1 ≤ m = c.2 in omega arith),
      )

  pub array_over : (f : Solution → Ground) (room : ℕ) → 1 ≤ room → Measuring (Err fault.Clash) at Among Pipes (λ s. g_is (f s)) (room - 1)
      → Measuring (Err fault.Clash) at Among Pipes (λ s. g_is (g_array (f s))) room
  array_over f room le h s among formed c = h s among formed (let few : c.0 + 1 ≤ room = c.2 in more_nodes (f s) c.0 (room - 1) c.1 (omega arith))

  pub measured_record : (f : Solution → GroundRow) (n : ℕ) → RowMeasured at Among f n → Measured at Among Pipes (λ s. g_is (g_rec (f s))) (n + 1)
  measured_record f n h = (
    g_is (g_rec h.0),
    (h.1.0, λ i le. ap (λ r. g_is (g_rec r)) (λ j l. h.1.1 i le l j)),
    (h.2, h.3),
    (h.4.0, h.4.1, λ ls d. (let few : total h.4.0 ls ≤ n = h.4.2 ls d in omega arith)),
    λ s among m c. (let one : 1 ≤ m = c.2 [] tt in
        let few : n ≤ m - 1 = h.5 s among c.0 c.1 (m - 1) (λ ls d. (let le : total c.0 ls + 1 ≤ m = c.2 ls d in omega arith)) in omega arith),
  )

  pub record_over : (f : Solution → GroundRow) (room : ℕ) → 1 ≤ room → RowMeasuring (Err fault.Clash) at Among f (room - 1)
      → Measuring (Err fault.Clash) at Among Pipes (λ s. g_is (g_rec (f s))) room
  record_over f room le h s among formed c = h s among formed.0 formed.1 c.0 c.1 (λ ls d. (let few : total c.0 ls + 1 ≤ room = c.2 ls d in omega arith))

  pub measured_stream : (f : Solution → GroundRow) (n : ℕ) → n ≤ 0 → RowMeasured at Among f n → Measured at Among Pipes (λ s. g_is (g_stream (f s))) 1
  measured_stream f n none h = (
    g_is (g_stream h.0),
    (h.1.0, λ i le. ap (λ r. g_is (g_stream r)) (λ j l. h.1.1 i le l j)),
    ((h.2.0, h.2.2), λ l. (let few : h.4.0 l + 0 ≤ n = h.4.2 (l ∷ []) (refl, tt) in weighs_plain (h.0 l) (h.4.0 l) (omega arith) (h.4.1 l))),
    (h.4.0, h.4.1, λ ls d. (let few : total h.4.0 ls ≤ n = h.4.2 ls d in omega arith)),
    λ s among m c. some_node (g_stream (f s)) m c,
  )

  pub stream_over : (f : Solution → GroundRow) (room : ℕ) → RowMeasuring (Err fault.Clash) at Among f 0 → Measuring (Err fault.Clash) at Among Pipes (λ s. g_is (g_stream (f s))) room
  stream_over f room h s among formed c =
      let l : (l : Label) × (listed l formed.0.1.0 ≡ false) × (listed l [] ≡ false) = fresh_label formed.0.1.0 [] in
      let plain : (k : Label) → is_plain (f s k) ≡ true = formed.1 in
      h s among (formed.0.0, ap is_plain (sym (formed.0.1.1 l.0 l.1)) ∙ plain l.0, formed.0.1) (λ k. plain_formed (f s k) (plain k)) (λ _. 0)
      (λ k. plain_weighs (f s k) 0 (plain k)) (λ ls d. no_weight ls)

  -- a field that counts, and a required label

  pub measured_field : (f : Solution → Ground) (n : ℕ) → ((s : Solution) → Among s → is_column (f s) ≡ false) → Measured at Among Pipes (λ s. g_is (f s)) n
      → Measured at Among Weighs (λ s. g_is (f s)) (n + 1)
  measured_field f n heavy h =
      let t : Ground = f (at h.1.0) in
      let is : g_is t ≡ h.0 = h.1.1 h.1.0 (omega arith) in (
        g_is t,
        (h.1.0, λ i le. h.1.1 i le ∙ sym is),
        subst IsWellFormedField (sym is) h.2,
        λ e. (n, subst (λ g. Pipes g n) (sym is) h.3, omega arith),
        λ s among m c. (let some : (k : ℕ) × AtMost (f s) k × (k + 1 ≤ m) = c (heavy s among) in let few : n ≤ some.0 = h.4 s among some.0 some.1 in let le : some.0 + 1 ≤ m = some.2 in omega arith),
      )

  pub field_over : (f : Solution → Ground) (room : ℕ) → 1 ≤ room → ((s : Solution) → Among s → is_column (f s) ≡ false) → Measuring (Err fault.Clash) at Among Pipes (λ s. g_is (f s)) (room - 1)
      → Measuring (Err fault.Clash) at Among Weighs (λ s. g_is (f s)) room
  field_over f room le heavy h s among formed c =
      let some : (k : ℕ) × AtMost (f s) k × (k + 1 ≤ room) = c (heavy s among) in
      let few : some.0 + 1 ≤ room = some.2 in
      h s among formed (more_nodes (f s) some.0 (room - 1) some.1 (omega arith))

  pub field_no_room : (f : Solution → Ground) (room : ℕ) → room ≡ 0 → ((s : Solution) → Among s → is_column (f s) ≡ false) → Measuring (Err fault.Clash) at Among Weighs (λ s. g_is (f s)) room
  field_no_room f room e heavy s among formed c = let few : (c (heavy s among)).0 + 1 ≤ room = (c (heavy s among)).2 in absurd (omega arith)

  pub measured_taken : (f : Solution → Ground) (n : ℕ) → Measured at Among Pipes (λ s. g_is (f s)) n → Measured at Among Takes (λ s. g_is (f s)) (n + 1)
  measured_taken f n h =
      let t : Ground = f (at h.1.0) in
      let is : g_is t ≡ h.0 = h.1.1 h.1.0 (omega arith) in (
        g_is t,
        (h.1.0, λ i le. h.1.1 i le ∙ sym is),
        subst IsWellFormedField (sym is) h.2,
        (n, subst (λ g. Pipes g n) (sym is) h.3, omega arith),
        λ s among m c. (let few : n ≤ c.0 = h.4 s among c.0 c.1 in let le : c.0 + 1 ≤ m = c.2 in omega arith),
      )

  pub taken_over : (f : Solution → Ground) (room : ℕ) → 1 ≤ room → Measuring (Err fault.Clash) at Among Pipes (λ s. g_is (f s)) (room - 1)
      → Measuring (Err fault.Clash) at Among Takes (λ s. g_is (f s)) room
  taken_over f room le h s among formed c = h s among formed (let few : c.0 + 1 ≤ room = c.2 in more_nodes (f s) c.0 (room - 1) c.1 (omega arith))

  pub taken_no_room : (f : Solution → Ground) (room : ℕ) → room ≡ 0 → Measuring (Err fault.Clash) at Among Takes (λ s. g_is (f s)) room
  taken_no_room f room e s among formed c = let few : c.0 + 1 ≤ room = c.2 in absurd (omega arith)

  -- functions

  module _ (f : Solution → GroundRow) (p : Solution → GroundField) (t : Solution → Ground) (seen : List Label) (off : (s : Solution) (l : Label) → listed l seen ≡ false → f s l ≡ g_absent) where
    pub measured_function : (a b c : ℕ) → Summed at Among Takes f seen a → Measured at Among Pipes p b → Measured at Among Pipes (λ s. g_is (t s)) c
        → Measured at Among Pipes (λ s. g_is (g_fun (f s) (p s) (t s))) (a + b + c + 1)
    measured_function a b c h i j = (
      g_is (g_fun row i.0 u),
      (h.1.0 + i.1.0 + j.1.0, settled),
      ((seen, λ l e. passed (listed l seen) (h.0 l) g_absent e), formed, i.2, subst IsWellFormedField (sym is) j.2),
      (h.3.0, b, c, takes, i.3, subst (λ g. Pipes g c) (sym is) j.3, λ ls d. (let few : total h.3.0 ls ≤ a = h.3.3 ls d in omega arith)),
      low,
    )
      where
        row : GroundRow
        row l = if listed l seen then h.0 l else g_absent

        u : Ground
        u = t (at j.1.0)

        is : g_is u ≡ j.0
        is = j.1.1 j.1.0 (omega arith)

        same_row : (i : ℕ) → h.1.0 ≤ i → (l : Label) → f (at i) l ≡ row l
        same_row i le l =
            by_cases (listed l seen) (λ e. h.1.1 i le l e ∙ sym (chosen (listed l seen) (h.0 l) g_absent e))
            (λ e. off (at i) l e ∙ sym (passed (listed l seen) (h.0 l) g_absent e))

        settled : (n : ℕ) → h.1.0 + i.1.0 + j.1.0 ≤ n → g_is (g_fun (f (at n)) (p (at n)) (t (at n))) ≡ g_is (g_fun row i.0 u)
        settled n le =
            let rows : (l : Label) → f (at n) l ≡ row l = same_row n (omega arith) in
            let pipes : p (at n) ≡ i.0 = i.1.1 n (omega arith) in
            let results : t (at n) ≡ u = (type_is (t (at n)) u).0 (j.1.1 n (omega arith) ∙ sym is) in
            λ k. g_is (g_fun (λ l. rows l k) (pipes k) (results k))

        formed : (l : Label) → IsWellFormedField (row l)
        formed l =
            by_cases (listed l seen) (λ e. subst IsWellFormedField (sym (chosen (listed l seen) (h.0 l) g_absent e)) (h.2 l))
            (λ e. subst IsWellFormedField (sym (passed (listed l seen) (h.0 l) g_absent e)) tt)

        takes : (l : Label) → Takes (row l) (h.3.0 l)
        takes l =
            by_cases (listed l seen) (λ e. subst (λ g. Takes g (h.3.0 l)) (sym (chosen (listed l seen) (h.0 l) g_absent e)) (h.3.1 l e))
            (λ e. subst (λ g. Takes g (h.3.0 l)) (sym (passed (listed l seen) (h.0 l) g_absent e)) tt)

        low : (s : Solution) → Among s → (m : ℕ) → Pipes (g_is (g_fun (f s) (p s) (t s))) m → a + b + c + 1 ≤ m
        low s among m w =
            let v : (ls : List Label) × AreDistinct ls × ((l : Label) → listed l seen ≡ false → listed l ls ≡ false) × (a ≤ total w.0 ls) = h.4 s among w.0 w.3 in
            let first : a ≤ total w.0 v.0 = v.3 in
            let second : b ≤ w.1 = i.4 s among w.1 w.4 in
            let third : c ≤ w.2 = j.4 s among w.2 w.5 in
            let whole : total w.0 v.0 + w.1 + w.2 + 1 ≤ m = w.6 v.0 v.1 in
            omega arith

    pub labels_over : (room : ℕ) → 1 ≤ room → Summing (Err fault.Clash) at Among Takes f seen (room - 1) → Measuring (Err fault.Clash) at Among Pipes (λ s. g_is (g_fun (f s) (p s) (t s))) room
    labels_over room le clash s among formed w =
        clash s among formed.1 w.0 w.3 (λ ls d. (let few : total w.0 ls + w.1 + w.2 + 1 ≤ room = w.6 ls d in omega arith))

    pub pipe_over : (a room : ℕ) → 1 ≤ room → Summed at Among Takes f seen a → a ≤ room - 1 → Measuring (Err fault.Clash) at Among Pipes p (room - 1 - a)
        → Measuring (Err fault.Clash) at Among Pipes (λ s. g_is (g_fun (f s) (p s) (t s))) room
    pipe_over a room le h small clash s among formed w =
        let v : (ls : List Label) × AreDistinct ls × ((l : Label) → listed l seen ≡ false → listed l ls ≡ false) × (a ≤ total w.0 ls) = h.4 s among w.0 w.3 in
        let first : a ≤ total w.0 v.0 = v.3 in
        let whole : total w.0 v.0 + w.1 + w.2 + 1 ≤ room = w.6 v.0 v.1 in
        clash s among formed.2 (more_piped (p s) w.1 (room - 1 - a) w.4 (omega arith))

    pub result_over : (a b room : ℕ) → 1 ≤ room → Summed at Among Takes f seen a → Measured at Among Pipes p b → a ≤ room - 1 → b ≤ room - 1 - a
        → Measuring (Err fault.Clash) at Among Pipes (λ s. g_is (t s)) (room - 1 - a - b) → Measuring (Err fault.Clash) at Among Pipes (λ s. g_is (g_fun (f s) (p s) (t s))) room
    result_over a b room le h i small also clash s among formed w =
        let v : (ls : List Label) × AreDistinct ls × ((l : Label) → listed l seen ≡ false → listed l ls ≡ false) × (a ≤ total w.0 ls) = h.4 s among w.0 w.3 in
        let first : a ≤ total w.0 v.0 = v.3 in
        let second : b ≤ w.1 = i.4 s among w.1 w.4 in
        let whole : total w.0 v.0 + w.1 + w.2 + 1 ≤ room = w.6 v.0 v.1 in
        clash s among formed.3 (more_nodes (t s) w.2 (room - 1 - a - b) w.5 (omega arith))
