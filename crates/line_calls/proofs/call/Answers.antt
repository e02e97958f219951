use Rattle.std.proofs.Common.{leb, length, arith, refl, sym, rules}
use mathlib.Core.Option.{none-ne-some}
use Rattle.line_calls.proofs.MakeLaws.{made-same, is-i, is-g, is-r, is-s, is_f, is-e, is-q, is_base}
use Rattle.line_calls.proofs.call.Goals as goal

pub returns-in-105 : goal.returns-in-105
returns-in-105 c =
    rw (is-i c.args.f (leb 384 (length c.args.returned.now)) c.in-105.is) (record { meets = search rules; apart = λ n. absurd (none-ne-some _ (sym n)) })

pub returns-in-103 : goal.returns-in-103
returns-in-103 c =
    rw (is-g c.args.f (leb 384 (length c.args.returned.now)) c.in-103.is) (record { meets = search rules; apart = λ n. refl })

pub returns-in-114 : goal.returns-in-114
returns-in-114 c =
    rw (is-r c.args.f (leb 384 (length c.args.returned.now)) c.in-114.is) (record { meets = search rules; apart = λ n. refl })

pub returns-in-115 : goal.returns-in-115
returns-in-115 c =
    rw (is-s c.args.f (leb 384 (length c.args.returned.now)) c.in-115.is) (record { meets = search rules; apart = λ n. refl })

pub returns-in-102 : goal.returns-in-102
returns-in-102 c =
    rw (is_f c.args.f (leb 384 (length c.args.returned.now)) c.in-102.is) (record { meets = search rules; apart = λ n. refl })

pub returns-in-101 : goal.returns-in-101
returns-in-101 c =
    rw (is-e c.args.f (leb 384 (length c.args.returned.now)) c.in-101.is) (record { meets = search rules; apart = λ n. refl })

pub returns-in-113 : goal.returns-in-113
returns-in-113 c =
    rw (is-q c.args.f (leb 384 (length c.args.returned.now)) c.in-113.is) (record { meets = search rules; apart = λ n. refl })

pub returns-in_default : goal.returns-in_default
returns-in_default c =
    made-same _ _ _ _ _ _ _
    (is_base _ _ (omega arith) (omega arith) (omega arith) (omega arith) (omega arith) (omega arith) (omega arith))
    c.base_call.ensures
