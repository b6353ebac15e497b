use Rattle.std.proofs.Common.{◌≡◌, take}
use Rattle.fx_value.proofs.key_test.KeyPredicate.copy.Given as goal

abbrev pub invariant-loop-test : goal.invariant-loop-test
invariant-loop-test l = l.tests.items ≡ take l.test-index l.self.tests
