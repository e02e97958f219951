use Rattle.std.proofs.Common.{leb, length, arith, refl, rules}
use Rattle.line_calls.proofs.MakeLaws.{made-same, is-a, is-t, is-range}
use Rattle.line_calls.proofs.base_call.Goals as goal

pub returns-in-97 : goal.returns-in-97
returns-in-97 c =
    rw (is-a c.args.f (leb 384 (length c.args.returned.now)) c.in-97.is) (record { meets = search rules; apart = λ n. refl })

pub returns-in-116 : goal.returns-in-116
returns-in-116 c =
    rw (is-t c.args.f (leb 384 (length c.args.returned.now)) c.in-116.is) (record { meets = search rules; apart = λ n. refl })

pub returns-in_default : goal.returns-in_default
returns-in_default c =
    made-same _ _ _ _ _ _ _ (is-range _ _ (omega arith) (omega arith)) c.range_call.ensures
