-- Request S-5 of document 02, demotions by cause: what the two counts of the header tell of the pages, said of calls that met their
-- contract. Statements only. Assumes nothing.
use Rattle.std.specs.Prelude.{◌≡◌, Bool, true, false, ◌&&◌, ℕ, ◌+◌, ◌%◌, ◌^◌, ◌≤◌, ◌<◌, eqb}
use Rattle.window.specs.declared.AdaptiveReceiverPacketWindow.{AdaptiveReceiverPacketWindow}
use Rattle.window.specs.declared.Cause.{Cause}
use Rattle.window.specs.declared.Cause.TheVariants.{Single, Range}
use Rattle.model.specs.Calls.{Call, insert, exchange, remove, remove_range, clear, clear_bounded, release_retired, set_base, take_front, ask}
use Rattle.model.specs.Table.{sum}
use Rattle.model.specs.Demand3.{one, Entry}
use Rattle.model.specs.Window.{Page, Window, pages_of}
use Rattle.model.specs.Steps.{is_cause, count_demotion_of, demotions_of}
use Rattle.model.specs.Sound.{SoundWithPoint}
use Rattle.model.specs.Contract.{State, window_of, refusal}
use Rattle.model.specs.Heads.{Stepped}

-- the count of a cause
abbrev pub count_of : Cause → AdaptiveReceiverPacketWindow → ℕ
count_of Single h = h.single_demotions
count_of Range h = h.range_demotions

-- "of those in remove and taking the front and of those in remove_range": whether a call's demotions are counted under this cause
abbrev pub counts_under : Cause → Call → Bool
counts_under k (insert s v listed) = false
counts_under k (exchange s v) = false
counts_under k (remove s) = is_cause Single k
counts_under k (remove_range a b listed) = is_cause Range k
counts_under k (clear listed) = false
counts_under k (clear_bounded n listed) = false
counts_under k (release_retired b listed) = false
counts_under k (set_base s) = false
counts_under k take_front = is_cause Single k
counts_under k (ask q) = false

-- a page that was dense and is sparse
abbrev pub became_sparse : Page → Page → Bool
became_sparse p q = eqb p.kind 2 && eqb q.kind 1

-- how many pages of w are so in v
abbrev pub sparser : Window → Window → ℕ
sparser w v = sum (pages_of w) (λ (g : ℕ). one (became_sparse (w.pages g) (v.pages g)))

-- what a range that leaves v of u makes of the second count: it rises for each page that was dense and is sparse after it, and by two at
-- the most. It may rise by one more than there are such pages: a range that goes round into the page in which it began may make that
-- page sparse and then empty it.
pub record RangeCounts (u v : State) : Type 0 where
  pub rise : ℕ
  pub counted : v.header.range_demotions ≡ (u.header.range_demotions + rise) % 2 ^ 64
  pub all : sparser (window_of u) (window_of v) ≤ rise
  pub few : rise ≤ 2

-- call c leaves v of u
pub record ByCause (c : Call) (u v : State) : Type 0 where
  -- remove and take_front raise the first count by one just if a page that was dense is sparse after it
  pub rises : counts_under Single c ≡ true → v.header.single_demotions ≡ (u.header.single_demotions + sparser (window_of u) (window_of v)) % 2 ^ 64
  pub once : counts_under Single c ≡ true → sparser (window_of u) (window_of v) ≤ 1
  pub ranges : counts_under Range c ≡ true → RangeCounts u v
  -- a call leaves the count that is not of its cause: all but remove, take_front and remove_range leave both
  pub stays : (k : Cause) → counts_under k c ≡ false → count_of k v.header ≡ count_of k u.header

-- every call in a sound state; both counts are u64
unfoldable pub CallsCountByCause : Type 0
CallsCountByCause =
    (u v : State) (e : Entry) → SoundWithPoint (window_of u) → ((k : Cause) → count_of k u.header < 2 ^ 64) → Stepped u e v → ByCause e.call u v

-- a call that is refused for header, lists or arguments leaves both, on every state
unfoldable pub RefusedCallsCountNothing : Type 0
RefusedCallsCountNothing =
    (u v : State) (e : Entry) → (refusal u e.call ≡ 0 → ⊥) → Stepped u e v → (k : Cause) → count_of k v.header ≡ count_of k u.header

-- "their sum, modulo 2^64, is the count compared with the source": a demotion of either cause raises it as the one count of document 01,
-- "demotions + 1", modulo 2^64
unfoldable pub SumCountsAll : Type 0
SumCountsAll = (c : Cause) (w : Window) (happened : Bool) → demotions_of (count_demotion_of c w happened).header ≡ (demotions_of w.header + one happened) % 2 ^ 64

pub record S-5 : Type 0 where
  pub calls : CallsCountByCause
  pub refused_calls : RefusedCallsCountNothing
  pub sum : SumCountsAll
