use Rattle.std.proofs.Common.{leb, length, arith, sym, rules}
use mathlib.Core.Option.{none-ne-some}
use Rattle.line_calls.proofs.MakeLaws.{none_made, is-d, is_b, is-v, is_c, is_none}
use Rattle.line_calls.proofs.range_call.Goals as goal

pub returns-in-100 : goal.returns-in-100
returns-in-100 c =
    rw (is-d c.args.f (leb 384 (length c.args.returned.now)) c.in-100.is) (record { meets = search rules; apart = λ n. absurd (none-ne-some _ (sym n)) })

pub returns-in-98 : goal.returns-in-98
returns-in-98 c =
    rw (is_b c.args.f (leb 384 (length c.args.returned.now)) c.in-98.is) (record { meets = search rules; apart = λ n. absurd (none-ne-some _ (sym n)) })

pub returns-in-118 : goal.returns-in-118
returns-in-118 c =
    rw (is-v c.args.f (leb 384 (length c.args.returned.now)) c.in-118.is) (record { meets = search rules; apart = λ n. absurd (none-ne-some _ (sym n)) })

pub returns-in-99 : goal.returns-in-99
returns-in-99 c =
    rw (is_c c.args.f (leb 384 (length c.args.returned.now)) c.in-99.is) (record { meets = search rules; apart = λ n. absurd (none-ne-some _ (sym n)) })

pub returns-in_default : goal.returns-in_default
returns-in_default c =
    none_made _ _ _ (is_none _ _ (omega arith) (omega arith) (omega arith) (omega arith))
