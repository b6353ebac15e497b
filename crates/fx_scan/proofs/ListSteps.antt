-- What stands at a place, and how a token list goes on with it.
use Rattle.std.proofs.Common.{◌≡◌, ℕ, suc, ◌+◌, ◌<◌, ◌≤◌, true, false, List, [], ◌∷◌, ◌++◌, length, take, drop, get_or, sym, ap, subst, ◌∙◌, arith, append-nil}
use Rattle.std.specs.Prelude.{not}
use Rattle.std.specs.List.{prefix_len, list_all}
use Rattle.std.proofs.lemmas.Bool.{and_parts}
use Rattle.std.proofs.lemmas.Bool.Decides.{nat_tests}
use Rattle.std.proofs.lemmas.List.{drop-drop, drop_more, drop_all, length-take-le, take-append-drop}
use Rattle.fx_scan.specs.declared.mode.Mode.{Mode}
use Rattle.fx_scan.specs.declared.token.Token.{Token}
use Rattle.fx_scan.specs.declared.token.TokenKind.{TokenKind}
use Rattle.fx_scan.specs.Forms.{Bytes, begins, is_slash, is_line_feed}
use Rattle.fx_scan.specs.Tokens.{is_blank, begins_comment, IsComment, start, after, IsToken, Reads, nothing, blank, comment, token, IsTokenList, IsStill, IsStuck}
use Rattle.fx_scan.specs.Readers.{IsTaken}
use Rattle.fx_scan.proofs.Runs.{by_bool, run_passes, run_stops, run_within}
use Rattle.fx_scan.proofs.KindLemmas.{form_some}

slash_no_feed : (b : ℕ) → is_slash b ≡ true → not (is_line_feed b) ≡ true
unfolding is_slash is_line_feed
slash_no_feed b h = grind (arith, nat_tests, h)

pub comment_there : (w : Bytes) (n : ℕ) → begins_comment w ≡ true → n ≡ prefix_len (λ b. not (is_line_feed b)) w → (n ≤ length w) × (0 < n) × IsComment (take n w) (drop n w)
comment_there [] n h is = absurd cc
comment_there (b ∷ []) n h is = by_bool (is_slash b) (λ yes. let e = rw yes at h in absurd cc) (λ other. let e = rw other at h in absurd cc)
comment_there (b ∷ d ∷ w) n h is =
    let parts = and_parts (is_slash b) (is_slash d) h in
    let k = prefix_len (λ x. not (is_line_feed x)) w in
    let first = slash_no_feed b parts.0 in
    let second = slash_no_feed d parts.1 in
    let len : prefix_len (λ x. not (is_line_feed x)) (b ∷ d ∷ w) ≡ suc (suc k) = rw (first, second) (omega arith) in
    let all = is ∙ len in (
      omega (arith, run_within (λ x. not (is_line_feed x)) w),
      omega arith,
      record {
        slashes = ap (λ i. begins_comment (take i (b ∷ d ∷ w))) all ∙ h;
        one_line = ap (λ i. list_all (λ x. not (is_line_feed x)) (take i (b ∷ d ∷ w))) is ∙ run_passes (λ x. not (is_line_feed x)) (b ∷ d ∷ w);
        to_the_end = ap (λ i. begins (λ x. not (is_line_feed x)) (drop i (b ∷ d ∷ w))) is ∙ run_stops (λ x. not (is_line_feed x)) (b ∷ d ∷ w);
      },
    )

pub token_there : (m : Mode) (w : Bytes) (k : TokenKind) (n : ℕ) → begins_comment w ≡ false → IsTaken m w k n → (n ≤ length w) × (0 < n) × IsToken m k (take n w) (drop n w)
token_there m w k n h is =
    let long = length-take-le n w is.within in
    let some = form_some k (take n w) is.form.form in (
      is.within,
      omega arith,
      record {
        form = is.form;
        longest = λ j v y e f. omega (arith, is.longest j v y (sym (take-append-drop n w) ∙ e) f);
        no_comment = ap begins_comment (take-append-drop n w) ∙ h;
      },
    )

-- ---- one step more

reads_then : {p q r : ℕ} {m n o : Mode} {w y z : Bytes} {ts us : List Token} → Reads p m w ts q n y → Reads q n y us r o z → Reads p m w (ts ++ us) r o z
reads_then nothing more = more
reads_then {p = p} (blank b z e k rest) more = blank b z e k (reads_then {p = p + 1} rest more)
reads_then {p = p} (comment c z e k rest) more = comment c z e k (reads_then {p = p + length c} rest more)
reads_then {p = p} (token k u z e is rest) more = token k u z e is (reads_then {p = p + length u} rest more)

-- the tokens so far, up to a place of the text
abbrev pub IsSoFar : Bytes → List Token → ℕ → Mode → Type 0
IsSoFar text ts at m = Reads 0 start text ts at m (drop at text)

pub at_start : (text : Bytes) → IsSoFar text [] 0 start
at_start text = nothing

past_place : (text : Bytes) (at n : ℕ) → drop n (drop at text) ≡ drop (at + n) text
past_place text at n = drop-drop n at text

pub blank_step : (text : Bytes) (ts : List Token) (at : ℕ) (m : Mode) → at < length text → begins is_blank (drop at text) ≡ true → IsSoFar text ts at m → IsSoFar text ts (at + 1) m
blank_step text ts at m h first before =
    let next = drop_more text at 0 h in
    let is : is_blank (get_or text at 0) ≡ true = ap (begins is_blank) (sym next) ∙ first in
    subst (λ x. Reads 0 start text x (at + 1) m (drop (at + 1) text)) (append-nil ts) (reads_then before (blank (get_or text at 0) (drop (at + 1) text) next is nothing))

pub comment_step : (text : Bytes) (ts : List Token) (at n : ℕ) (m : Mode) → n ≤ length (drop at text) → IsComment (take n (drop at text)) (drop n (drop at text))
    → IsSoFar text ts at m → IsSoFar text ts (at + n) m
comment_step text ts at n m h c before =
    let left = drop at text in
    let long : length (take n left) ≡ n = length-take-le n left h in
    let end = subst (λ k. Reads at m left [] (at + k) m (drop n left)) long (comment (take n left) (drop n left) (sym (take-append-drop n left)) c nothing) in
    subst (λ x. Reads 0 start text x (at + n) m (drop (at + n) text)) (append-nil ts) (reads_then before (subst (λ x. Reads at m left [] (at + n) m x) (past_place text at n) end))

pub token_step : (text : Bytes) (ts : List Token) (at n : ℕ) (m : Mode) (k : TokenKind) → n ≤ length (drop at text) → IsToken m k (take n (drop at text)) (drop n (drop at text))
    → IsSoFar text ts at m → IsSoFar text (ts ++ (record { kind = k; place = record { at = at }; len = n } ∷ [])) (at + n) (after m k (take n (drop at text)))
token_step text ts at n m k h is before =
    let left = drop at text in
    let u = take n left in
    let long : length u ≡ n = length-take-le n left h in
    let end = subst (λ i. Reads at m left (record { kind = k; place = record { at = at }; len = i } ∷ []) (at + i) (after m k u) (drop n left)) long
    (token k u (drop n left) (sym (take-append-drop n left)) is nothing) in
    reads_then before (subst (λ x. Reads at m left (record { kind = k; place = record { at = at }; len = n } ∷ []) (at + n) (after m k u) x) (past_place text at n) end)

pub whole_list : (text : Bytes) (ts : List Token) (at : ℕ) (m : Mode) → length text ≤ at → IsSoFar text ts at m → IsTokenList text ts
whole_list text ts at m h before = record { end = at; mode = m; reads = subst (λ x. Reads 0 start text ts at m x) (drop_all at text h) before }

pub stuck_there : (text : Bytes) (ts : List Token) (at : ℕ) (m : Mode) → 0 < length (drop at text) → IsStill m (drop at text) → IsSoFar text ts at m → IsStuck text at
stuck_there text ts at m some still before = record { tokens = ts; mode = m; left = drop at text; reads = before; some = some; still = still }
