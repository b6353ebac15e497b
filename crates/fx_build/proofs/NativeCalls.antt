-- Calls of all built-ins are safe.
use Rattle.fx_meaning.specs.declared.native.Native.{Native}
use Rattle.fx_meaning.specs.declared.native.Native.TheVariants as n
use Rattle.fx_meaning.specs.Meaning.{Calls}
use Rattle.fx_build.proofs.Callable.{NativeRuns}
use Rattle.fx_build.proofs.ConvertCalls.{convert_runs}
use Rattle.fx_build.proofs.MemberCalls.{contains_runs, split_runs}
use Rattle.fx_build.proofs.PlainCalls.{length_runs, now_runs}
use Rattle.fx_build.proofs.ScalarCalls.{scalar_runs}
use Rattle.fx_build.proofs.StreamCalls.{stream_runs}

pub natives_run : (calls : Calls) (g : Native) → NativeRuns calls g
natives_run calls n.Now = now_runs calls
natives_run calls (n.Convert k) = convert_runs calls k
natives_run calls n.Length = length_runs calls
natives_run calls n.Contains = contains_runs calls
natives_run calls n.Split = split_runs calls
natives_run calls (n.Scalar g) = scalar_runs calls g
natives_run calls (n.Stream g) = stream_runs calls g
