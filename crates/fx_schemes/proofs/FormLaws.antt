-- The plainest instance of a term whose rows have columns alone is well formed.
use Rattle.std.proofs.Common.{◌≡◌, refl, sym, subst, ◌∙◌, ◌≤◌, Bool, true, false, ◌&&◌, List, [], ◌∷◌}
use Rattle.std.specs.Prelude.{if◌then◌else◌}
use Rattle.std.proofs.lemmas.Bool.{and_parts}
use Rattle.fx_base.specs.Text.{same_text}
use Rattle.fx_types.specs.Term.{Label, Term, bool, int, text, time, span, pattern, done, type_variable, array, fun, rec, stream, Labels, no_labels, more_labels, Pipe, no_pipe, by_pipe, Fields, no_fields, more_fields, Tail, default, row_variable}
use Rattle.fx_types.specs.Ground.{GroundField, g_absent, g_is, is_plain, listed, IsWellFormed, IsWellFormedField}
use Rattle.fx_types.specs.Instance.{ground, ground_field, ground_fields, ground_labels, ground_pipe, ground_tail, plainest}
use Rattle.fx_types.specs.Size.{IsType}
use Rattle.fx_types.proofs.Choices.{passed, neither}
use Rattle.fx_types.proofs.PlainLaws.{plain_formed}
use Rattle.fx_types.proofs.SizeLaws.{tail_field, tail_is}
use Rattle.fx_schemes.proofs.Sizes.{tidy, tidy_labels, tidy_pipe, tidy_fields, tidy_tail, most, small}

-- rows of columns

default_plain : (r : Tail) → tidy_tail r ≡ true → is_plain (tail_field r) ≡ true
default_plain (default f) e = e
default_plain (row_variable n) e = refl

abbrev names_of : Fields → List Label
names_of no_fields = []
names_of (more_fields x f fs) = x ∷ names_of fs

off_names : (fs : Fields) (r : Tail) (l : Label) → listed l (names_of fs) ≡ false
    → ground_fields plainest fs (ground_tail plainest r) l ≡ tail_field r
off_names no_fields r l e = tail_is r l
off_names (more_fields x f fs) r l e =
    passed (same_text l x) (ground_field plainest f) (ground_fields plainest fs (ground_tail plainest r) l) (neither (same_text l x) (listed l (names_of fs)) e).0
    ∙ off_names fs r l (neither (same_text l x) (listed l (names_of fs)) e).1

either_plain : (b : Bool) (g h : GroundField) → is_plain g ≡ true → is_plain h ≡ true → is_plain (if b then g else h) ≡ true
either_plain true g h e i = e
either_plain false g h e i = i

all_plain : (fs : Fields) (r : Tail) → tidy_fields fs ≡ true → tidy_tail r ≡ true → (l : Label)
    → is_plain (ground_fields plainest fs (ground_tail plainest r) l) ≡ true
all_plain no_fields r e h l = subst (λ g. is_plain g ≡ true) (sym (tail_is r l)) (default_plain r h)
all_plain (more_fields x f fs) r e h l =
    let parts = and_parts (is_plain (ground_field plainest f)) (tidy_fields fs) e in
    either_plain (same_text l x) (ground_field plainest f) (ground_fields plainest fs (ground_tail plainest r) l) parts.0 (all_plain fs r parts.1 h l)

record_formed : (fs : Fields) (r : Tail) → (tidy_fields fs && tidy_tail r) ≡ true → IsWellFormed (ground plainest (rec fs r))
record_formed fs r e =
    let parts = and_parts (tidy_fields fs) (tidy_tail r) e in (
      (tail_field r, default_plain r parts.1, (names_of fs, off_names fs r)),
      (λ l. plain_formed (ground_fields plainest fs (ground_tail plainest r) l) (all_plain fs r parts.0 parts.1 l)),
    )

stream_formed : (fs : Fields) (r : Tail) → (tidy_fields fs && tidy_tail r) ≡ true → IsWellFormed (ground plainest (stream fs r))
stream_formed fs r e =
    let parts = and_parts (tidy_fields fs) (tidy_tail r) e in
    ((tail_field r, (names_of fs, off_names fs r)), (λ l. all_plain fs r parts.0 parts.1 l))

-- functions

abbrev required_of : Labels → List Label
required_of no_labels = []
required_of (more_labels x t ls) = x ∷ required_of ls

off_required : (ls : Labels) (l : Label) → listed l (required_of ls) ≡ false → ground_labels plainest ls l ≡ g_absent
off_required no_labels l e = refl
off_required (more_labels x t ls) l e =
    passed (same_text l x) (g_is (ground plainest t)) (ground_labels plainest ls l) (neither (same_text l x) (listed l (required_of ls)) e).0
    ∙ off_required ls l (neither (same_text l x) (listed l (required_of ls)) e).1

either_formed : (b : Bool) (g h : GroundField) → IsWellFormedField g → IsWellFormedField h → IsWellFormedField (if b then g else h)
either_formed true g h e i = e
either_formed false g h e i = i

mutual
  formed : (t : Term) → tidy t ≡ true → IsWellFormed (ground plainest t)
  formed bool e = tt
  formed int e = tt
  formed text e = tt
  formed time e = tt
  formed span e = tt
  formed pattern e = tt
  formed done e = tt
  formed (type_variable n) e = tt
  formed (array t) e = formed t e
  formed (fun ls p t) e =
      let parts = and_parts (tidy_labels ls) (tidy_pipe p && tidy t) e in
      let rest = and_parts (tidy_pipe p) (tidy t) parts.1 in
      ((required_of ls, off_required ls), labels_formed ls parts.0, pipe_formed p rest.0, formed t rest.1)
  formed (rec fs r) e = record_formed fs r e
  formed (stream fs r) e = stream_formed fs r e

  labels_formed : (ls : Labels) → tidy_labels ls ≡ true → (l : Label) → IsWellFormedField (ground_labels plainest ls l)
  labels_formed no_labels e l = tt
  labels_formed (more_labels x t ls) e l =
      let parts = and_parts (tidy t) (tidy_labels ls) e in
      either_formed (same_text l x) (g_is (ground plainest t)) (ground_labels plainest ls l) (formed t parts.0) (labels_formed ls parts.1 l)

  pipe_formed : (p : Pipe) → tidy_pipe p ≡ true → IsWellFormedField (ground_pipe plainest p)
  pipe_formed no_pipe e = tt
  pipe_formed (by_pipe t) e = formed t e

pub plain_type : (t : Term) → tidy t ≡ true → most t ≤ 4096 → IsType (ground plainest t)
plain_type t e few = (formed t e, small t e few)
