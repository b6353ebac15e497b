-- Each built-in that needs no words has a line without them.
use Rattle.std.proofs.Common.{◌≡◌, refl, false, [], ◌∷◌, inl, inr}
use Rattle.std.specs.Prelude.{codes}
use mathlib.Core.Bool.{true≢false}
use Rattle.fx_types.specs.Ground.{GroundRow, g_int, g_time, g_absent}
use Rattle.fx_schemes.specs.declared.list.Builtin.{Builtin}
use Rattle.fx_schemes.specs.declared.list.Builtin.TheVariants as b
use Rattle.fx_schemes.specs.Builtins.{IsLine}
use Rattle.fx_schemes.specs.Given.{text_at, list_at}
use Rattle.fx_schemes.specs.Line.{Line, put}
use Rattle.fx_schemes.specs.Signature.{needs_words}

abbrev bare : GroundRow
bare l = g_absent

abbrev timed : GroundRow
timed = put (codes "_time") g_time bare

abbrev valued : GroundRow
valued = put (codes "_value") g_int bare

abbrev bounded : GroundRow
bounded = put (codes "_time") g_time (put (codes "_start") g_time (put (codes "_stop") g_time bare))

pub has_line : (x : Builtin) → needs_words x ≡ false → (L : Line) × IsLine x [] L
unfolding IsLine text_at list_at
has_line b.From e = (_, refl)
has_line b.Texts e = (_, refl)
has_line b.Bools e = (_, refl)
has_line b.ArrayFrom e = (_, (bare, refl))
has_line b.Range e = (_, (timed, refl, g_time, inl refl, g_time, inl refl, refl))
has_line b.Filter e = (_, (refl, (bare, refl)))
has_line b.Map e = (_, (bare, bare, refl))
has_line b.Group e = (_, (refl, ([], refl, (bare, tt, refl))))
has_line b.Union e = (_, (bare, refl))
has_line b.Window e = (_, (bounded, (refl, refl, refl), refl))
has_line b.AggregateWindow e = absurd (true≢false e)
has_line b.Reduce e = (_, (bare, bare, refl))
has_line b.Yield e = (_, (bare, refl))
has_line b.Count e = (_, (codes "_value", refl, (valued, _, (g_int, inr (inl refl), refl, refl), refl)))
has_line b.Sum e = (_, (codes "_value", refl, (valued, _, (refl, refl), refl)))
has_line b.Spread e = (_, (codes "_value", refl, (valued, _, (refl, refl), refl)))
has_line b.Distinct e = (_, (codes "_value", refl, (valued, _, (g_int, inr (inl refl), refl, refl), refl)))
has_line b.Min e = (_, (codes "_value", refl, (valued, _, (g_int, inl refl, refl, refl), refl)))
has_line b.Max e = (_, (codes "_value", refl, (valued, _, (g_int, inl refl, refl, refl), refl)))
has_line b.First e = (_, (codes "_value", refl, (valued, _, (g_int, inr (inl refl), refl, refl), refl)))
has_line b.Last e = (_, (codes "_value", refl, (valued, _, (g_int, inr (inl refl), refl, refl), refl)))
has_line b.Keep e = absurd (true≢false e)
has_line b.Drop e = absurd (true≢false e)
has_line b.Rename e = absurd (true≢false e)
has_line b.Duplicate e = absurd (true≢false e)
has_line b.Set e = absurd (true≢false e)
has_line b.Fill e = (_, (codes "_value", refl, (valued, g_int, inr (inl refl), refl, refl)))
has_line b.Sort e = (_, (codes "_value" ∷ [], refl, (valued, ((g_int, refl), tt), refl)))
has_line b.Limit e = (_, (bare, refl))
has_line b.Tail e = (_, (bare, refl))
has_line b.Difference e = (_, (codes "_value", refl, (valued, refl, refl)))
has_line b.CumulativeSum e = (_, (codes "_value", refl, (valued, refl, refl)))
has_line b.Elapsed e = (_, (codes "_time", refl, (codes "elapsed", refl, (timed, refl, refl))))
has_line b.Pivot e = absurd (true≢false e)
has_line b.JoinInner e = (_, (bare, bare, bare, refl))
has_line b.JoinLeft e = (_, (bare, bare, bare, refl))
has_line b.JoinRight e = (_, (bare, bare, bare, refl))
has_line b.JoinFull e = (_, (bare, bare, bare, refl))
has_line b.JoinTime e = (_, (refl, (timed, refl, timed, refl, bare, refl)))
has_line b.True e = (_, refl)
has_line b.False e = (_, refl)
has_line b.Now e = (_, refl)
has_line b.Int e = (_, (g_int, inr (inl refl), refl))
has_line b.String e = (_, (g_int, inr (inl refl), refl))
has_line b.Bool e = (_, (g_int, inr (inl refl), refl))
has_line b.Time e = (_, (g_int, inr (inl refl), refl))
has_line b.Length e = (_, (g_int, refl))
has_line b.Contains e = (_, (g_int, inr (inl refl), refl))
has_line b.ContainsStr e = (_, refl)
has_line b.HasPrefix e = (_, refl)
has_line b.HasSuffix e = (_, refl)
has_line b.Strlen e = (_, refl)
has_line b.Substring e = (_, refl)
has_line b.TrimPrefix e = (_, refl)
has_line b.TrimSuffix e = (_, refl)
has_line b.ReplaceAll e = (_, refl)
has_line b.Split e = (_, refl)
has_line b.JoinStr e = (_, refl)
has_line b.Repeat e = (_, refl)
has_line b.Year e = (_, refl)
has_line b.Month e = (_, refl)
has_line b.MonthDay e = (_, refl)
has_line b.YearDay e = (_, refl)
has_line b.WeekDay e = (_, refl)
has_line b.Hour e = (_, refl)
has_line b.Minute e = (_, refl)
has_line b.Second e = (_, refl)
has_line b.Nanosecond e = (_, refl)
has_line b.Truncate e = (_, refl)
has_line b.Add e = (_, refl)
has_line b.Sub e = (_, refl)
