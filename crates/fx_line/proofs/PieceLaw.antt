-- What the pieces of a line tell of other lines.
use Rattle.std.proofs.Common.{◌≡◌, ℕ, ℤ, ◌+◌, ◌-◌, ◌≤◌, ◌<◌, Bool, true, false, not, ◌&&◌, ◌||◌, cond, List, [], ◌∷◌, ◌++◌, length, take, drop, map, refl, sym, ap, ◌∙◌, subst, append_assoc, append-nil, add-one, get_or, length-append, arith, eqb, Option, Some, None, inl, inr, to_z, of_z, w64, lit<}
use Rattle.std.specs.Prelude.{All, FitsSigned, filter, IfSome, MatchOption}
use Rattle.std.specs.List.{list_all, list_any, flat_map}
use Rattle.std.specs.Str.{IsUtf8}
use Rattle.std.proofs.Math.Seq.{take-append_seam, drop-append_seam, drop-cons}
use Rattle.std.proofs.lemmas.Bool.{and_parts, and_right, ne_eqb, false≢true}
use Rattle.std.proofs.lemmas.Int.{to_z-of_z}
use Rattle.std.proofs.lemmas.List.{length-map}
use Rattle.std.proofs.lemmas.List.Elements.{All-head, All-tail}
use Rattle.std.proofs.lemmas.Str.{IsUtf8-append}
use Rattle.fx_line.specs.declared.line.LineError.TheVariants.{TooManyTags, NameReserved, FloatField, UintField, IntRange, TimeRange}
use Rattle.fx_line.specs.declared.line.LineMode.{LineMode}
use Rattle.fx_line.specs.declared.point.Point.{Point}
use Rattle.fx_line.specs.declared.word.Word.TheVariants as word
use Rattle.fx_line.specs.Word.{begins, ends, is_word}
use Rattle.fx_line.specs.Value.{is_digit, without_minus, behind_digits, is_bare, is_integer, is_float, is_unsigned, is_int, integer_of, is_stamp}
use Rattle.fx_line.specs.Line.{Pair, Written, without_last_spaces, trimmed, is_blank, pair_text, more_text, fields_text, is_reserved, has_reserved, is_wide, is_time, time_of, error_of, sort_tags, tag_said, last_ones, point_of, are_fields, IsSpelled, IsLine, points_of, Gives}
use Rattle.fx_line.specs.Word.{said}
use Rattle.fx_line.specs.Collected.{IsTextPair, AreTexts}
use Rattle.fx_line.specs.Pieces.{BeginsWithInt, AreFilled, IsFilled, IsStamped, ArePieces, int_points, head_text, pieces_from, pieces_of}
use Rattle.fx_line.proofs.IntTexts.{IsFound, int_found, put_byte, int_text, int_narrow, not_float, not_unsigned, stamp_text, no_space_behind}
use Rattle.fx_line.specs.Reading.{skip}
use Rattle.fx_line.proofs.Lawful.{fits_int}
use Rattle.fx_line.proofs.Pairs.{skip_found}
use Rattle.fx_line.proofs.Refilled.{SameKeys, SayInts, IsRefilled, Filled, filled_fields, any_keys, no_ints, are_kept, same_series}
use Rattle.fx_line.proofs.Spelled.{same_spelled}
use Rattle.fx_line.proofs.Texts.{spelled_texts}
use Rattle.fx_line.proofs.Trimming.{IsFlush, spaces_off, no_last_space}

-- ---- an integer is cut off
pub int_at : (bytes digits left behind : List ℕ) → digits ≡ without_minus bytes → true ≡ begins is_digit digits → left ≡ behind_digits digits → Some behind ≡ skip 105 left → IsFound bytes behind
int_at bytes digits left behind is first after found =
    int_found bytes behind (ap (begins is_digit) (sym is) ∙ sym first) (ap behind_digits (sym is) ∙ sym after ∙ skip_found 105 left behind (sym found))

pub found_short : (bytes behind : List ℕ) → IsFound bytes behind → length behind ≤ length bytes
found_short bytes behind f = omega (arith, ap length f.joined, length-append f.value behind)

pub int_cut : (bytes behind value rest : List ℕ) (n : ℤ) → IsFound bytes behind → value ≡ take (length bytes - length behind) bytes → rest ≡ drop (length bytes - length behind) bytes
    → n ≡ integer_of value → true ≡ is_int (integer_of value) → BeginsWithInt bytes (to_z w64 (of_z w64 n)) rest
int_cut bytes behind value rest n f front back exact fits =
    let long : length bytes - length behind ≡ length f.value = omega (arith, ap length f.joined, length-append f.value behind) in
    let its : value ≡ f.value = front ∙ (λ i. take (long i) (f.joined i)) ∙ take-append_seam f.value behind in
    let left : rest ≡ behind = back ∙ (λ i. drop (long i) (f.joined i)) ∙ drop-append_seam f.value behind in
    let within : is_int n ≡ true = ap is_int exact ∙ sym fits in
    let same : to_z w64 (of_z w64 n) ≡ n = to_z-of_z w64 n (fits_int n within) in
    subst (λ m. BeginsWithInt bytes m rest) (sym same) (record {
      value = value;
      joined = f.joined ∙ (λ i. sym its i ++ sym left i);
      is = record {
        spelled = ap is_integer its ∙ f.spelled;
        bare = ap (list_all is_bare) its ∙ f.bare;
        exact = sym exact;
        fits = within;
      };
    })

-- ---- the line is a text
pair_utf8 : (key value rest : List ℕ) → IsUtf8 key → IsUtf8 value → IsUtf8 rest → IsUtf8 ((key ++ 61 ∷ value) ++ rest)
pair_utf8 key value rest k v r = IsUtf8-append (key ++ 61 ∷ value) rest (IsUtf8-append key (61 ∷ value) k (put_byte 61 value (lit< tt) v)) r

tags_utf8 : (ts : List Pair) (rest : List ℕ) → All IsTextPair ts → IsUtf8 rest → IsUtf8 (flat_map more_text ts ++ rest)
tags_utf8 [] rest h u = u
tags_utf8 (t ∷ ts) rest h u =
    let head = All-head IsTextPair t ts h in
    let tail = tags_utf8 ts rest (All-tail IsTextPair t ts h) u in
    subst IsUtf8 (sym (append_assoc (more_text t) (flat_map more_text ts) rest)) (put_byte 44 (pair_text t ++ (flat_map more_text ts ++ rest)) (lit< tt) (pair_utf8 t.key t.value (flat_map more_text ts ++ rest) head.0 head.1 tail))

more_utf8 : (fs gs : List Pair) (ns : List ℤ) (rest : List ℕ) → SameKeys fs gs → SayInts gs ns → All IsTextPair fs → IsUtf8 rest → IsUtf8 (flat_map more_text gs ++ rest)
more_utf8 [] [] ns rest k h t u = u
more_utf8 [] (g ∷ gs) ns rest k h t u = absurd k
more_utf8 (f ∷ fs) [] ns rest k h t u = absurd k
more_utf8 (f ∷ fs) (g ∷ gs) [] rest k h t u = absurd h
more_utf8 (f ∷ fs) (g ∷ gs) (n ∷ ns) rest k h t u =
    let tail = more_utf8 fs gs ns rest k.1 h.1 (All-tail IsTextPair f fs t) u in
    let key : IsUtf8 g.key = subst IsUtf8 k.0 (All-head IsTextPair f fs t).0 in
    subst IsUtf8 (sym (append_assoc (more_text g) (flat_map more_text gs) rest)) (put_byte 44 (pair_text g ++ (flat_map more_text gs ++ rest)) (lit< tt) (pair_utf8 g.key g.value (flat_map more_text gs ++ rest) key (int_text g.value h.0.spelled) tail))

fields_utf8 : (fs gs : List Pair) (ns : List ℤ) (rest : List ℕ) → SameKeys fs gs → SayInts gs ns → All IsTextPair fs → IsUtf8 rest → IsUtf8 (fields_text gs ++ rest)
fields_utf8 [] [] ns rest k h t u = u
fields_utf8 [] (g ∷ gs) ns rest k h t u = absurd k
fields_utf8 (f ∷ fs) [] ns rest k h t u = absurd k
fields_utf8 (f ∷ fs) (g ∷ gs) [] rest k h t u = absurd h
fields_utf8 (f ∷ fs) (g ∷ gs) (n ∷ ns) rest k h t u =
    let tail = more_utf8 fs gs ns rest k.1 h.1 (All-tail IsTextPair f fs t) u in
    let key : IsUtf8 g.key = subst IsUtf8 k.0 (All-head IsTextPair f fs t).0 in
    subst IsUtf8 (sym (append_assoc (pair_text g) (flat_map more_text gs) rest)) (pair_utf8 g.key g.value (flat_map more_text gs ++ rest) key (int_text g.value h.0.spelled) tail)

-- ---- the line stands as it is trimmed
no_first_space : (b : ℕ) (m : List ℕ) → is_word word.Measurement (b ∷ m) ≡ true → eqb b 32 ≡ false
no_first_space b m h = ne_eqb b 32 (λ e. false≢true (sym (ap (λ x. not (ends word.Measurement x)) e) ∙ (and_parts _ _ h).0))

trimmed_is : (measurement middle stamp : List ℕ) → is_word word.Measurement measurement ≡ true → is_stamp stamp ≡ true → trimmed (measurement ++ (middle ++ stamp)) ≡ measurement ++ (middle ++ stamp)
trimmed_is [] middle stamp h s = absurd (false≢true h)
trimmed_is (b ∷ m) middle stamp h s =
    let line : List ℕ = b ∷ (m ++ (middle ++ stamp)) in
    let front = spaces_off [] line refl (record { flush = no_first_space b m h }) in
    let joined : ((b ∷ m) ++ middle) ++ stamp ≡ line = append_assoc (b ∷ m) middle stamp in
    ap without_last_spaces front ∙ no_last_space line (λ r e. no_space_behind ((b ∷ m) ++ middle) stamp s r (joined ∙ e))

same_blank : (measurement x y : List ℕ) → is_word word.Measurement measurement ≡ true → is_blank (measurement ++ x) ≡ is_blank (measurement ++ y)
same_blank [] x y h = absurd (false≢true h)
same_blank (b ∷ m) x y h = refl

-- ---- the line has no error
first_tests : (a b c d e f : Bool) → cond a (Some TooManyTags) (cond b (Some NameReserved) (cond c (Some FloatField) (cond d (Some UintField) (cond e (Some IntRange) (cond (not f) (Some TimeRange) None))))) ≡ None → (a ≡ false) × (b ≡ false)
first_tests true b c d e f h = absurd (cc h)
first_tests false true c d e f h = absurd (cc h)
first_tests false false c d e f h = (refl, refl)

no_error : (a b c d e f : Bool) → a ≡ false → b ≡ false → c ≡ false → d ≡ false → e ≡ false → f ≡ true
    → cond a (Some TooManyTags) (cond b (Some NameReserved) (cond c (Some FloatField) (cond d (Some UintField) (cond e (Some IntRange) (cond (not f) (Some TimeRange) None))))) ≡ None
no_error a b c d e f p q r s t u =
    λ i. cond (p i) (Some TooManyTags) (cond (q i) (Some NameReserved) (cond (r i) (Some FloatField) (cond (s i) (Some UintField) (cond (t i) (Some IntRange) (cond (not (u i)) (Some TimeRange) None)))))

refilled : Written → List Pair → List ℕ → Written
refilled w gs stamp = record { measurement = w.measurement; tags = w.tags; fields = gs; time = Some stamp }

module _ (mode : LineMode) (w : Written) (gs : List Pair) (ns : List ℤ) (stamp : List ℕ) (h : IsRefilled w.fields ns gs) where
  errors_kept : error_of mode w ≡ None → is_time (time_of mode (Some stamp)) ≡ true → error_of mode (refilled w gs stamp) ≡ None
  unfolding refilled
  errors_kept none within =
      let firsts = first_tests _ _ _ _ _ _ none in
      let names : has_reserved (refilled w gs stamp) ≡ false = ap (λ x. is_reserved w.measurement || (list_any (λ t. is_reserved t.key) w.tags || x)) (sym (any_keys is_reserved w.fields gs h.keys)) ∙ firsts.1 in
      no_error _ _ _ _ _ _ firsts.0 names
      (and_right (not mode.skip_floats) _ (no_ints (λ g. is_float g.value) (λ g n is. not_float g.value is.spelled) gs ns h.ints))
      (no_ints (λ g. is_unsigned g.value) (λ g n is. not_unsigned g.value is.spelled) gs ns h.ints)
      (no_ints is_wide (λ g n is. int_narrow g.value n is g.key) gs ns h.ints)
      within

-- ---- the law
line_text : (m tags fields stamp : List ℕ) → (m ++ (tags ++ 32 ∷ [])) ++ (fields ++ 32 ∷ stamp) ≡ m ++ (tags ++ ((32 ∷ []) ++ (fields ++ ((32 ∷ []) ++ stamp))))
line_text m tags fields stamp = simp append_assoc

line_ends : (m tags fields stamp : List ℕ) → (m ++ (tags ++ 32 ∷ [])) ++ (fields ++ 32 ∷ stamp) ≡ m ++ ((tags ++ (32 ∷ (fields ++ 32 ∷ []))) ++ stamp)
line_ends m tags fields stamp = simp append_assoc

module _ (mode : LineMode) (line : List ℕ) (w : Written) (is : IsLine line w) (right : error_of mode w ≡ None) where
  texts : AreTexts w
  texts = spelled_texts line w is.text is.parts

  line_of : (gs : List Pair) (ns : List ℤ) (stamp : List ℕ) → IsRefilled w.fields ns gs → is_stamp stamp ≡ true
      → IsLine (head_text w ++ (fields_text gs ++ 32 ∷ stamp)) (refilled w gs stamp)
  unfolding refilled
  line_of gs ns stamp h s =
      let tags : List ℕ = flat_map more_text w.tags in
      let fields : List ℕ = fields_text gs in
      let whole : List ℕ = head_text w ++ (fields ++ 32 ∷ stamp) in
      let ends = line_ends w.measurement tags fields stamp in
      let middle : List ℕ = tags ++ (32 ∷ (fields ++ 32 ∷ [])) in
      let flat : trimmed whole ≡ whole = ap trimmed ends ∙ trimmed_is w.measurement middle stamp is.parts.measurement s ∙ sym ends in
      record {
        text = subst IsUtf8 (sym (line_text w.measurement tags fields stamp)) (IsUtf8-append w.measurement _ texts.measurement
            (tags_utf8 w.tags _ texts.tags (put_byte 32 (fields ++ 32 ∷ stamp) (lit< tt) (fields_utf8 w.fields gs ns (32 ∷ stamp) h.keys h.ints texts.fields (put_byte 32 stamp (lit< tt) (stamp_text stamp s))))));
        shown = ap is_blank (flat ∙ ends) ∙ same_blank w.measurement (middle ++ stamp) _ is.parts.measurement ∙ sym (ap is_blank is.parts.spelled) ∙ is.shown;
        parts = record {
          gap = 32 ∷ [];
          later_gap = 32 ∷ [];
          spelled = flat ∙ line_text w.measurement tags fields stamp;
          gap_is = refl;
          later_gap_is = refl;
          measurement = is.parts.measurement;
          tags = is.parts.tags;
          fields = are_kept w.fields gs ns h.keys h.ints is.parts.fields;
          time = s;
        };
        keys = is.keys;
      }

  gives_by : (new : List ℕ) (ns : List ℤ) (time : ℤ) (rest : List ℕ) (gs : List Pair) → length w.fields ≤ length (points_of mode w) → IsRefilled w.fields ns gs → new ≡ head_text w ++ (fields_text gs ++ rest) → IsStamped mode rest time
      → Gives mode new (int_points (map (λ p. p.series) (points_of mode w)) ns time)
  unfolding refilled
  gives_by new ns time rest gs long h joined stamped =
      let spelled : head_text w ++ (fields_text gs ++ 32 ∷ stamped.stamp) ≡ new = ap (λ r. head_text w ++ (fields_text gs ++ r)) (sym stamped.spelled) ∙ sym joined in
      let measurement : List ℕ = said word.Measurement false w.measurement in
      let tags = sort_tags (map tag_said w.tags) in
      let all : length w.fields ≤ length (filter (λ f. not (is_float f.value)) (last_ones w.fields)) = omega (arith, length-map (filter (λ f. not (is_float f.value)) (last_ones w.fields)) (point_of measurement tags (time_of mode w.time))) in
      let points : points_of mode (refilled w gs stamped.stamp) ≡ int_points (map (λ p. p.series) (points_of mode w)) ns time =
      same_series measurement tags (time_of mode w.time) (time_of mode (Some stamped.stamp)) w.fields gs ns h.keys h.ints all
      ∙ ap (int_points (map (λ p. p.series) (points_of mode w)) ns) (sym stamped.exact) in
      inr (refilled w gs stamped.stamp, subst (λ l. IsLine l (refilled w gs stamped.stamp)) spelled (line_of gs ns stamped.stamp h stamped.digits), errors_kept mode w gs ns stamped.stamp h right stamped.within, sym points)

  gives_of : (fs : List Pair) → w.fields ≡ fs → are_fields fs ≡ true → length w.fields ≤ length (points_of mode w) → ArePieces mode (pieces_of w) (map (λ p. p.series) (points_of mode w))
  gives_of [] e some long = absurd (false≢true some)
  gives_of (f ∷ fs) e some long = λ new ns time filled.
      let first = filled_fields (head_text w) f fs new ns filled.rest (subst (λ l. AreFilled (pieces_from (head_text w) l) new ns filled.rest) e filled.filled) in
      gives_by new ns time filled.rest first.fields long (subst (λ l. IsRefilled l ns first.fields) (sym e) first.refilled) first.joined filled.stamped

pub pieces_law : (line : List ℕ) (w : Written) (points : List Point) (pieces : List (List ℕ)) → IsSpelled (trimmed line) w → length w.fields ≡ length points → pieces ≡ pieces_of w → (mode : LineMode) → Gives mode line points → ArePieces mode pieces (map (λ p. p.series) points)
pieces_law line w points pieces parts long e mode (inl blank) =
    absurd (no_fields w.fields parts.fields (omega (arith, long, ap length blank.1)))
  where
    no_fields : (fs : List Pair) → are_fields fs ≡ true → length fs ≡ 0 → ⊥
    no_fields [] h n = false≢true h
    no_fields (f ∷ fs) h n = omega (arith, n)
pieces_law line w points pieces parts long e mode (inr given) =
    let same : given.0 ≡ w = same_spelled (trimmed line) given.0 w given.1.parts parts in
    let is : IsLine line w = subst (IsLine line) same given.1 in
    let right : error_of mode w ≡ None = ap (error_of mode) (sym same) ∙ given.2 in
    let its : points ≡ points_of mode w = given.3 ∙ ap (points_of mode) same in
    let law = gives_of mode line w is right w.fields refl is.parts.fields (omega (arith, long, ap length its)) in
    subst (λ ps. ArePieces mode ps (map (λ p. p.series) points)) (sym e) (subst (λ qs. ArePieces mode (pieces_of w) (map (λ p. p.series) qs)) (sym its) law)

-- ---- a piece is read behind others
pub next_piece : (pieces : List (List ℕ)) (i : ℕ) (piece line rest bytes behind : List ℕ) (values values' : List ℤ) (n : ℤ) → i < length pieces → piece ≡ get_or pieces i piece → rest ≡ piece ++ bytes → BeginsWithInt bytes n behind → values' ≡ values ++ to_z w64 (of_z w64 n) ∷ []
    → ((more : List ℤ) (end : List ℕ) → AreFilled (drop i pieces) rest more end → AreFilled pieces line (values ++ more) end)
    → (more : List ℤ) (end : List ℕ) → AreFilled (drop (i + 1) pieces) behind more end → AreFilled pieces line (values' ++ more) end
next_piece pieces i piece line rest bytes behind values values' n within at stripped int pushed had more end h =
    let left : drop i pieces ≡ piece ∷ drop (i + 1) pieces = drop-cons pieces i piece within ∙ (λ j. sym at j ∷ drop (sym (add-one i) j) pieces) in
    let all = had (n ∷ more) end (subst (λ l. AreFilled l rest (n ∷ more) end) (sym left) (bytes, behind, stripped, int, h)) in
    let same : values ++ (n ∷ more) ≡ values' ++ more = sym (append_assoc values (n ∷ []) more) ∙ ap (λ m. (values ++ m ∷ []) ++ more) (sym (to_z-of_z w64 n (fits_int n int.is.fits))) ∙ ap (λ l. l ++ more) (sym pushed) in
    subst (λ l. AreFilled pieces line l end) same all

pub all_read : (pieces : List (List ℕ)) (i : ℕ) (line rest : List ℕ) (values : List ℤ) → drop i pieces ≡ []
    → ((more : List ℤ) (end : List ℕ) → AreFilled (drop i pieces) rest more end → AreFilled pieces line (values ++ more) end) → AreFilled pieces line values rest
all_read pieces i line rest values none had =
    subst (λ l. AreFilled pieces line l rest) (append-nil values) (had [] rest (subst (λ l. AreFilled l rest [] rest) (sym none) refl))

-- what is known of an option is known of the value that it has
pub some_of : {A : Type 0} (N : Type 0) (P : A → Type 0) (o : Option A) → MatchOption o N P → IfSome o P
some_of N P None h = tt
some_of N P (Some x) h = h
