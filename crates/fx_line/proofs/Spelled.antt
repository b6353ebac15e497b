-- A line has one spelling: its parts are cut in one way only.
use Rattle.std.proofs.Common.{◌≡◌, ℕ, Bool, true, false, not, ◌&&◌, ◌||◌, cond, List, [], ◌∷◌, ◌++◌, refl, sym, ap, ◌∙◌, subst, append_assoc, Option, Some, None, ⊎_elim, eqb, arith, leb}
use Rattle.std.specs.List.{list_all, flat_map}
use Rattle.std.proofs.lemmas.Bool.{and_parts, and_from, or_cases, false≢true, ne_eqb, eqb-true, leb-true, both_ways, not-true}
use Rattle.std.proofs.lemmas.Option.{none-some}
use Rattle.std.specs.Prelude.{IfSome, IfNone}
use Rattle.fx_line.specs.declared.pair.PairsRead.{PairsRead}
use Rattle.fx_line.specs.declared.pair.Side.{Side}
use Rattle.fx_line.specs.declared.pair.Side.TheVariants as side
use Rattle.fx_line.specs.declared.word.Word.TheVariants as word
use Rattle.fx_line.specs.Word.{begins, ends, is_whole, is_escape, is_word, front, back}
use Rattle.fx_line.specs.Value.{is_digit, is_digits, is_stamp, without_minus}
use Rattle.fx_line.specs.Line.{Pair, Written, is_empty, is_gap, pair_text, more_text, fields_text, time_text, are_fields, is_time_or_none, without_spaces, IsSpelled}
use Rattle.fx_line.specs.Reading.{is_divider, ends_pair, is_pair, pair_at, ends_all, More, HasMore, Fields, stamp_of, time_at}
use Rattle.fx_line.proofs.Pairs.{pair_first, pair_found, key_is_word, same_parts, pairs_end, ends_all_pairs, same_more}
use Rattle.fx_line.proofs.Trimming.{IsFlush, spaces_off, spaces_of}
use Rattle.fx_line.proofs.Words.{IsEnd, front_word, back_word, whole_word, back_end, front-back}

-- fields stand in one way in some bytes
pub first_field : (bytes : List ℕ) (f : Pair) (fs : List Pair) (r : List ℕ) → Fields bytes (f ∷ fs) r → pair_at side.Field bytes ≡ Some (f, flat_map more_text fs ++ r)
first_field bytes f fs r h =
    ap (pair_at side.Field) (h.spelled ∙ append_assoc (pair_text f) (flat_map more_text fs) r)
    ∙ pair_first side.Field f (flat_map more_text fs ++ r) (and_parts _ _ h.kinds).0 (pairs_end fs r (ends_all_pairs side.Field r h.ends))

pub more_fields : (bytes : List ℕ) (f : Pair) (fs : List Pair) (r : List ℕ) → Fields bytes (f ∷ fs) r → More side.Field (flat_map more_text fs ++ r) fs r
more_fields bytes f fs r h = record { spelled = refl; kinds = (and_parts _ _ h.kinds).1; ends = h.ends }

pub no_first_field : (bytes : List ℕ) → pair_at side.Field bytes ≡ None → (fields : List Pair) (r : List ℕ) → Fields bytes fields r → ⊥
no_first_field bytes none [] r h = false≢true h.kinds
no_first_field bytes none (f ∷ fs) r h = none-some (f, flat_map more_text fs ++ r) (sym none ∙ first_field bytes f fs r h)

-- a first field is read
pub fields_found : (bytes : List ℕ) (f : Pair) (rest : List ℕ) (all fs : List Pair) (r : List ℕ) → pair_at side.Field bytes ≡ Some (f, rest) → all ≡ (f ∷ []) ++ fs → More side.Field rest fs r → Fields bytes all r
fields_found bytes f rest all fs r found joined more =
    let first = pair_found side.Field bytes f rest found in
    subst (λ (l : List Pair). Fields bytes l r) (sym joined) (record {
      spelled = first.spelled ∙ ap (λ t. pair_text f ++ t) more.spelled ∙ sym (append_assoc (pair_text f) (flat_map more_text fs) r);
      kinds = and_from _ _ first.kind more.kinds;
      ends = more.ends;
    })

pub no_more_fields : (bytes : List ℕ) (f : Pair) (rest : List ℕ) → pair_at side.Field bytes ≡ Some (f, rest) → ((fs : List Pair) (r : List ℕ) → More side.Field rest fs r → ⊥) → (fields : List Pair) (r : List ℕ) → Fields bytes fields r → ⊥
no_more_fields bytes f rest found none [] r h = false≢true h.kinds
no_more_fields bytes f rest found none (g ∷ gs) r h =
    let same = same_parts (f, rest) (g, flat_map more_text gs ++ r) (sym found ∙ first_field bytes g gs r h) in
    none gs r (subst (λ (b : List ℕ). More side.Field b gs r) (sym same.1) (more_fields bytes g gs r h))

pub same_fields : (bytes : List ℕ) (fs gs : List Pair) (r q : List ℕ) → Fields bytes fs r → Fields bytes gs q → (fs ≡ gs) × (r ≡ q)
same_fields bytes [] gs r q a b = absurd (false≢true a.kinds)
same_fields bytes (f ∷ fs) [] r q a b = absurd (false≢true b.kinds)
same_fields bytes (f ∷ fs) (g ∷ gs) r q a b =
    let first = same_parts (f, flat_map more_text fs ++ r) (g, flat_map more_text gs ++ q) (sym (first_field bytes f fs r a) ∙ first_field bytes g gs q b) in
    let rest = same_more side.Field (flat_map more_text fs ++ r) fs gs r q (more_fields bytes f fs r a) (subst (λ (x : List ℕ). More side.Field x gs q) (sym first.1) (more_fields bytes g gs q b)) in
    (λ i. first.0 i ∷ rest.0 i, rest.1)

-- the parts that are not blank
no_space_first : (b : ℕ) (w : List ℕ) → is_whole word.Name false (b ∷ w) ≡ true → eqb b 32 ≡ false
no_space_first b w h = ne_eqb b 32 (λ e. false≢true (sym (ap (λ x. not (ends word.Name x)) e) ∙ (and_parts _ _ h).0))

word_flush : (w r : List ℕ) → is_word word.Name w ≡ true → IsFlush (w ++ r)
word_flush [] r h = absurd (false≢true h)
word_flush (b ∷ w) r h = record { flush = no_space_first b w h }

fields_flush : (fs : List Pair) (r : List ℕ) → are_fields fs ≡ true → IsFlush (fields_text fs ++ r)
fields_flush [] r h = absurd (false≢true h)
fields_flush (f ∷ fs) r h =
    let joined : (pair_text f ++ flat_map more_text fs) ++ r ≡ f.key ++ 61 ∷ ((f.value ++ flat_map more_text fs) ++ r) =
    ap (λ x. x ++ r) (append_assoc f.key (61 ∷ f.value) (flat_map more_text fs)) ∙ append_assoc f.key (61 ∷ (f.value ++ flat_map more_text fs)) r in
    subst IsFlush (sym joined) (word_flush f.key (61 ∷ ((f.value ++ flat_map more_text fs) ++ r)) (and_parts _ _ (and_parts _ _ h).0).0)

digit_flush : (b : ℕ) → is_digit b ≡ true → eqb b 32 ≡ false
digit_flush b h = ne_eqb b 32 (λ e. false≢true (sym (ap is_digit e) ∙ h))

stamp_flush : (t : List ℕ) → is_stamp t ≡ true → IsFlush t
stamp_flush [] h = absurd (false≢true h)
stamp_flush (b ∷ t) h =
    elim (eqb b 45) as (λ x. eqb b 45 ≡ x → is_digits (cond x t (b ∷ t)) ≡ true → IsFlush (b ∷ t)) [
      | true ↦ λ e k. record { flush = ne_eqb b 32 (λ s. false≢true (sym (ap (λ y. eqb y 45) s) ∙ e)) }
      | false ↦ λ e k. record { flush = digit_flush b (and_parts _ _ k).0 }
    ] refl h

gap_off : (g r : List ℕ) → is_gap g ≡ true → IsFlush r → without_spaces (g ++ r) ≡ r
gap_off [] r h e = absurd (false≢true h)
gap_off (b ∷ g) r h e = spaces_off (b ∷ g) r h e

-- the time
time_after_gap : (g t : List ℕ) → is_gap g ≡ true → is_stamp t ≡ true → time_at (g ++ t) ≡ Some (Some t)
time_after_gap [] t h s = absurd (false≢true h)
time_after_gap (b ∷ g) t h s =
    let parts = and_parts _ _ h in
    ap (λ x. cond x (stamp_of (without_spaces (g ++ t))) None) parts.0
    ∙ ap stamp_of (spaces_off g t parts.1 (stamp_flush t s))
    ∙ ap (λ x. cond x (Some (Some t)) None) s

time_read : (g : List ℕ) (time : Option (List ℕ)) → is_gap g ≡ true → is_time_or_none time ≡ true → time_at (time_text g time) ≡ Some time
time_read g None h s = refl
time_read g (Some t) h s = time_after_gap g t h s

gap_first : (b : ℕ) (g r : List ℕ) → is_gap (b ∷ g) ≡ true → begins (λ c. eqb c 32) ((b ∷ g) ++ r) ≡ true
gap_first b g r h = (and_parts _ _ h).0

gap_begins : (g r : List ℕ) → is_gap g ≡ true → begins (λ c. eqb c 32) (g ++ r) ≡ true
gap_begins [] r h = absurd (false≢true h)
gap_begins (b ∷ g) r h = gap_first b g r h

begins_all : (r : List ℕ) → begins (λ c. eqb c 32) r ≡ true → ends_all side.Field r ≡ true
begins_all [] h = refl
begins_all (b ∷ r) h = h

time_ends : (g : List ℕ) (time : Option (List ℕ)) → is_gap g ≡ true → ends_all side.Field (time_text g time) ≡ true
time_ends g None h = refl
time_ends g (Some t) h = begins_all (g ++ t) (gap_begins g t h)

-- a timestamp that is read
pub record IsTimed (rest : List ℕ) (time : Option (List ℕ)) : Type 0 where
  pub gap : List ℕ
  pub gap_is : is_gap gap ≡ true
  pub spelled : rest ≡ time_text gap time
  pub time_is : is_time_or_none time ≡ true

stamp_found : (t : List ℕ) (time : Option (List ℕ)) → stamp_of t ≡ Some time → (is_stamp t ≡ true) × (time ≡ Some t)
stamp_found t time e =
    elim (is_stamp t) as (λ x. cond x (Some (Some t)) None ≡ Some time → (x ≡ true) × (time ≡ Some t)) [
      | true ↦ λ h. let same : Some t ≡ time = cc h in (refl, sym same)
      | false ↦ λ h. absurd (none-some time h)
    ] e

pub time_found : (rest : List ℕ) (time : Option (List ℕ)) → time_at rest ≡ Some time → IsTimed rest time
time_found [] time e =
    let same : None ≡ time = cc e in
    subst (λ (x : Option (List ℕ)). IsTimed [] x) same (record { gap = 32 ∷ []; gap_is = refl; spelled = refl; time_is = refl })
time_found (b ∷ rest) time e =
    elim (eqb b 32) as (λ x. eqb b 32 ≡ x → cond x (stamp_of (without_spaces rest)) None ≡ Some time → IsTimed (b ∷ rest) time) [
      | true ↦ λ h same.
          let found = stamp_found (without_spaces rest) time same in
          let s = spaces_of rest in
          subst (λ (x : Option (List ℕ)). IsTimed (b ∷ rest) x) (sym found.1) (record {
            gap = b ∷ s.spaces;
            gap_is = and_from _ _ h s.are;
            spelled = ap (λ y. b ∷ y) s.joined;
            time_is = found.0;
          })
      | false ↦ λ h same. absurd (none-some time same)
    ] refl e

-- what the steps find of a line
pub record IsRead (body : List ℕ) (w : Written) : Type 0 where
  pub measurement : front word.Measurement false body ≡ w.measurement
  pub is_name : is_word word.Measurement w.measurement ≡ true
  pub tagged : List ℕ
  pub tags : More side.Tag (back word.Measurement false body) w.tags tagged
  pub behind : List ℕ
  pub fields : Fields (without_spaces tagged) w.fields behind
  pub time : time_at behind ≡ Some w.time

tags_end : (tags : List Pair) (g r : List ℕ) → is_gap g ≡ true → IsEnd word.Measurement (flat_map more_text tags ++ (g ++ r))
tags_end [] [] r h = absurd (false≢true h)
tags_end [] (b ∷ g) r h = record { ends = ap (λ (x : ℕ). eqb x 44 || eqb x 32) (eqb-true b 32 (and_parts _ _ h).0) }
tags_end (t ∷ tags) g r h = record { ends = refl }

pub spelled_read : (body : List ℕ) (w : Written) → IsSpelled body w → IsRead body w
spelled_read body w h =
    let behind : List ℕ = time_text h.later_gap w.time in
    let fields : List ℕ = fields_text w.fields ++ behind in
    let tail : List ℕ = flat_map more_text w.tags ++ (h.gap ++ fields) in
    let whole = whole_word word.Measurement w.measurement h.measurement in
    let end = tags_end w.tags h.gap fields h.gap_is in
    let rest : back word.Measurement false body ≡ tail = ap (back word.Measurement false) h.spelled ∙ back_word word.Measurement false w.measurement tail whole end in
    let flush : without_spaces (h.gap ++ fields) ≡ fields = gap_off h.gap fields h.gap_is (fields_flush w.fields behind h.fields) in
    record {
      measurement = ap (front word.Measurement false) h.spelled ∙ front_word word.Measurement false w.measurement tail whole end;
      is_name = h.measurement;
      tagged = h.gap ++ fields;
      tags = record { spelled = rest; kinds = h.tags; ends = gap_begins h.gap fields h.gap_is };
      behind = behind;
      fields = record { spelled = flush; kinds = h.fields; ends = time_ends h.later_gap w.time h.later_gap_is };
      time = time_read h.later_gap w.time h.later_gap_is h.time;
    }

-- a space stands before the fields
pub record HasGap (tagged : List ℕ) : Type 0 where
  pub gap : List ℕ
  pub gap_is : is_gap gap ≡ true
  pub joined : tagged ≡ gap ++ without_spaces tagged

gap_of : (tagged : List ℕ) → ends_all side.Tag tagged ≡ true → HasGap tagged
gap_of [] h = absurd (false≢true h)
gap_of (b ∷ r) h =
    let s = spaces_of r in
    record {
      gap = b ∷ s.spaces;
      gap_is = and_from _ _ h s.are;
      joined = ap (λ y. b ∷ y) s.joined ∙ ap (λ x. (b ∷ s.spaces) ++ cond x (without_spaces r) (b ∷ r)) (sym h);
    }

pub read_spelled : (body : List ℕ) (w : Written) → IsRead body w → IsSpelled body w
read_spelled body w h =
    let g = gap_of h.tagged h.tags.ends in
    let t = time_found h.behind w.time h.time in
    record {
      gap = g.gap;
      later_gap = t.gap;
      spelled = sym (front-back word.Measurement false body)
          ∙ ap (λ m. m ++ back word.Measurement false body) h.measurement
          ∙ ap (λ r. w.measurement ++ r) (h.tags.spelled
          ∙ ap (λ r. flat_map more_text w.tags ++ r) (g.joined ∙ ap (λ r. g.gap ++ r) (h.fields.spelled ∙ ap (λ r. fields_text w.fields ++ r) t.spelled)));
      gap_is = g.gap_is;
      later_gap_is = t.gap_is;
      measurement = h.is_name;
      tags = h.tags.kinds;
      fields = h.fields.kinds;
      time = t.time_is;
    }

-- the steps find one thing only
fields_of : (body : List ℕ) (v w : Written) (g : IsRead body v) (h : IsRead body w) → Fields (without_spaces g.tagged) w.fields h.behind
fields_of body v w g h =
    subst (λ (x : List ℕ). Fields (without_spaces x) w.fields h.behind) (sym (same_more side.Tag (back word.Measurement false body) v.tags w.tags g.tagged h.tagged g.tags h.tags).1) h.fields

pub same_read : (body : List ℕ) (v w : Written) → IsRead body v → IsRead body w → v ≡ w
same_read body v w g h =
    let names : v.measurement ≡ w.measurement = sym g.measurement ∙ h.measurement in
    let tags = same_more side.Tag (back word.Measurement false body) v.tags w.tags g.tagged h.tagged g.tags h.tags in
    let fields = same_fields (without_spaces g.tagged) v.fields w.fields g.behind h.behind g.fields (fields_of body v w g h) in
    let both : Some v.time ≡ Some w.time = sym g.time ∙ ap time_at fields.1 ∙ h.time in
    let times : v.time ≡ w.time = cc both in
    λ i. record { measurement = names i; tags = tags.0 i; fields = fields.0 i; time = times i }

pub same_spelled : (body : List ℕ) (v w : Written) → IsSpelled body v → IsSpelled body w → v ≡ w
same_spelled body v w g h = same_read body v w (spelled_read body v g) (spelled_read body w h)

-- where a step finds nothing
pub no_name : (body : List ℕ) → is_word word.Measurement (front word.Measurement false body) ≡ false → (w : Written) → IsSpelled body w → ⊥
no_name body wrong w h =
    let r = spelled_read body w h in false≢true (sym wrong ∙ ap (is_word word.Measurement) r.measurement ∙ r.is_name)

pub no_tags : (body : List ℕ) → ((ps : List Pair) (r : List ℕ) → More side.Tag (back word.Measurement false body) ps r → ⊥) → (w : Written) → IsSpelled body w → ⊥
no_tags body none w h = let r = spelled_read body w h in none w.tags r.tagged r.tags

pub no_fields : (body : List ℕ) (ts : List Pair) (tagged : List ℕ) → More side.Tag (back word.Measurement false body) ts tagged → ((fs : List Pair) (r : List ℕ) → Fields (without_spaces tagged) fs r → ⊥) → (w : Written) → IsSpelled body w → ⊥
no_fields body ts tagged tags none w h =
    let r = spelled_read body w h in
    none w.fields r.behind (subst (λ (x : List ℕ). Fields (without_spaces x) w.fields r.behind) (sym (same_more side.Tag (back word.Measurement false body) ts w.tags tagged r.tagged tags r.tags).1) r.fields)

pub no_time : (body : List ℕ) (ts : List Pair) (tagged : List ℕ) (fs : List Pair) (behind : List ℕ) → More side.Tag (back word.Measurement false body) ts tagged → Fields (without_spaces tagged) fs behind → time_at behind ≡ None → (w : Written) → IsSpelled body w → ⊥
no_time body ts tagged fs behind tags fields none w h =
    let r = spelled_read body w h in
    let its : Fields (without_spaces tagged) w.fields r.behind =
    subst (λ (x : List ℕ). Fields (without_spaces x) w.fields r.behind) (sym (same_more side.Tag (back word.Measurement false body) ts w.tags tagged r.tagged tags r.tags).1) r.fields in
    none-some w.time (sym none ∙ ap time_at (same_fields (without_spaces tagged) fs w.fields behind r.behind fields its).1 ∙ r.time)

-- pairs that are put behind others
pub fields_from : (bytes : List ℕ) (f : Pair) (rest : List ℕ) (earlier : List Pair) (o : Option PairsRead) → pair_at side.Field bytes ≡ Some (f, rest) → earlier ≡ f ∷ []
    → IfSome o (λ r. HasMore side.Field rest earlier r.pairs.items r.rest.now) → IfSome o (λ r. Fields bytes r.pairs.items r.rest.now)
fields_from bytes f rest earlier None found e h = tt
fields_from bytes f rest earlier (Some r) found e h = fields_found bytes f rest r.pairs.items h.pairs r.rest.now found (h.joined ∙ ap (λ l. l ++ h.pairs) e) h.more

pub no_fields_from : (bytes : List ℕ) (f : Pair) (rest : List ℕ) (o : Option PairsRead) → pair_at side.Field bytes ≡ Some (f, rest)
    → IfNone o ((ps : List Pair) (r : List ℕ) → More side.Field rest ps r → ⊥) → IfNone o ((fs : List Pair) (r : List ℕ) → Fields bytes fs r → ⊥)
no_fields_from bytes f rest None found h = no_more_fields bytes f rest found h
no_fields_from bytes f rest (Some r) found h = tt

pub more_of : (s : Side) (bytes : List ℕ) (earlier all : List Pair) (rest : List ℕ) → earlier ≡ [] → HasMore s bytes earlier all rest → More s bytes all rest
more_of s bytes earlier all rest e h = subst (λ (l : List Pair). More s bytes l rest) (sym (h.joined ∙ ap (λ l. l ++ h.pairs) e)) h.more

-- a measurement ends where its word ends
end_is : (r : List ℕ) → IsEnd word.Measurement r → ends_pair r ≡ true
end_is [] h = refl
end_is (b ∷ r) h = h.ends

pub measurement_end : (bytes : List ℕ) → ends_pair (back word.Measurement false bytes) ≡ true
measurement_end bytes = end_is (back word.Measurement false bytes) (back_end word.Measurement false bytes)
