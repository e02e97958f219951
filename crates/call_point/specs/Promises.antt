-- What the steps of the calls promise. Definitions only. Assumes nothing.
use Rattle.std.specs.Prelude.{◌≡◌, Bool, true, false, cond, List, ℕ, ◌*◌, ◌/◌, ◌≤◌, ◌<◌, length, Option, None, Some, Result, Err}
use Rattle.window.specs.declared.AdaptiveReceiverPacketWindow.{AdaptiveReceiverPacketWindow}
use Rattle.window.specs.declared.Cause.TheVariants.{Single}
use Rattle.window.specs.declared.answers.Answer.{Answer}
use Rattle.window.specs.declared.answers.Step.{Step}
use Rattle.window.specs.declared.refusals.Refusal.{Refusal}
use Rattle.window.specs.declared.refusals.Refusal.TheVariants.{Unsound}
use Rattle.window.specs.Memory.{Memory, page_count_of, block_count_of, words_per_page, words_per_block}
use Rattle.model.specs.Calls as model
use Rattle.model.specs.Table.{sequence_at_of}
use Rattle.model.specs.Window.{Window, decode}
use Rattle.model.specs.Pages as one
use Rattle.model.specs.Steps.{set_point, with_page, put_page, add_live_of, count_promotion_of, is_new}
use Rattle.model.specs.Sound.{Sound}
use Rattle.page_base.specs.declared.PageWords.{PageWords}
use Rattle.page_base.specs.declared.Left.{Left}
use Rattle.page_base.specs.Page.{part_of, with_part}
use Rattle.page_base.specs.Promises.{read_answer_of, Exchanges}
use Rattle.page_insert.specs.declared.Inserted.{Inserted}
use Rattle.page_insert.specs.Insert as page
use Rattle.page_insert.specs.Promises.{Inserts}
use Rattle.page_remove.specs.declared.Removed.{Removed}
use Rattle.page_remove.specs.Promises.{Removes}
use Rattle.block_marks.specs.Blocks.{block_words_at}
use Rattle.page_store.specs.Promises as updates
use Rattle.page_store.specs.Promises.{Stores}
use Rattle.page_release.specs.declared.PageReleased.{PageReleased}
use Rattle.page_release.specs.Promises.{Within, Revives}
use Rattle.laws_acknowledge.specs.Increments.{after_remove_of}
use Rattle.call_base.specs.Answers.{answer_of, state_of}
use Rattle.acknowledge.specs.Promises as acknowledge
use Rattle.acknowledge.specs.Promises.{with_sizes_of, MovesBase}
use Rattle.call_point.specs.declared.insert.Put.{Put}

-- ---- the cells of one page

-- the cells of page g alone may have changed
pub record Cells (g : ℕ) (list list' : List ℕ) : Type 0 where
  pub part : List ℕ
  pub full : length part ≡ 64
  pub are : list' ≡ with_part g list part

-- page g alone may have changed: its cells, its words and the words of its block
pub record PageOnly (g : ℕ) (m m' : Memory) : Type 0 where
  pub sequences : Cells g m.sequences m'.sequences
  pub values : Cells g m.values m'.values
  pub words : Within m.pages m.blocks g m'.pages m'.blocks

-- what is done to the cells of page g, which has the words w
module _ (g n : ℕ) (w : PageWords) (ss vs : List ℕ) where
  pub record ExchangesIn (s v : ℕ) (x : Option ℕ) (vs' : List ℕ) : Type 0 where
    pub values : Cells g vs vs'
    pub does : Exchanges n w (part_of g ss) (part_of g vs) s v x values.part

  pub record RemovesIn (demote_at s : ℕ) (x : Removed) (ss' vs' : List ℕ) : Type 0 where
    pub sequences : Cells g ss ss'
    pub values : Cells g vs vs'
    pub does : Removes n demote_at w (part_of g ss) (part_of g vs) s x sequences.part values.part

  pub record InsertsIn (s v : ℕ) (x : Inserted) (ss' vs' : List ℕ) : Type 0 where
    pub sequences : Cells g ss ss'
    pub values : Cells g vs vs'
    pub does : Inserts n w (part_of g ss) (part_of g vs) s v x sequences.part values.part

-- ---- what was done to the cells, kept in the words of page g and of its block

-- nothing of the words was written, and the header is as it was
pub record Untouched (h : AdaptiveReceiverPacketWindow) (pages blocks : List ℕ) (r : AdaptiveReceiverPacketWindow) (pages' blocks' : List ℕ) : Type 0 where
  pub header : r ≡ h
  pub pages_are : pages' ≡ pages
  pub blocks_are : blocks' ≡ blocks

module _ (h : AdaptiveReceiverPacketWindow) (pages blocks : List ℕ) (g : ℕ) where
  pub record Keeps (x : Inserted) (p : Put) (pages' blocks' : List ℕ) : Type 0 where
    pub within : Within pages blocks g pages' blocks'
    pub answer : answer_of p.answer ≡ page.answer_of x.answer
    pub new : is_new (answer_of p.answer) ≡ true
        → Stores (updates.Inserted h (block_words_at blocks (g / 64)) g (page.promotes x.answer)) pages blocks g x.words p.window pages' blocks'
    pub old : is_new (answer_of p.answer) ≡ false → Untouched h pages blocks p.window pages' blocks'

  pub record KeepsRemoved (w : PageWords) (left : Left) (x : Option ℕ) (r : Step) (pages' blocks' : List ℕ) : Type 0 where
    pub within : Within pages blocks g pages' blocks'
    pub answer : answer_of r.answer.answer ≡ read_answer_of x
    pub count : r.answer.count ≡ 0
    pub found : (v : ℕ) → x ≡ Some v
        → Stores (updates.Removed h (block_words_at blocks (g / 64)) g left Single 1) pages blocks g w r.window pages' blocks'
    pub absent : x ≡ None → Untouched h pages blocks r.window pages' blocks'

-- ---- insert

-- the window after an insert into page g that left i: "promotions + 1", one live value more
abbrev pub after_put : Window → ℕ → one.Inserted → Window
after_put w g i =
    cond (is_new i.answer) (add_live_of (count_promotion_of (put_page w g i.page) i.promotes) (g / 64) 1) (with_page w g i.page)

module _ (h : AdaptiveReceiverPacketWindow) (m : Memory) (g n : ℕ) where
  -- page g of a sound window, inside its lists
  pub record Placing : Type 0 where
    pub sound : Sound (decode h m)
    pub cells : h.n ≡ n
    pub below : g < page_count_of h.window_size
    pub pages_long : words_per_page * page_count_of h.window_size ≤ length m.pages
    pub blocks_long : words_per_block * block_count_of h.window_size ≤ length m.blocks

  pub record InsertsLive (s v : ℕ) (p : Put) (m' : Memory) : Type 0 where
    pub only : PageOnly g m m'
    pub answer : Placing → answer_of p.answer ≡ (one.insert_page n ((decode h m).pages g) s v).answer
    pub gives : Placing → decode p.window m' ≡ after_put (decode h m) g (one.insert_page n ((decode h m).pages g) s v)
    -- a refusal 4 leaves all as it came
    pub refused : Placing → answer_of p.answer ≡ model.refused 4 → state_of p.window m' ≡ state_of h m

-- an answer on a revived page: no refusal but 7
pub record RevivedAnswer (a r : Result Answer Refusal) : Type 0 where
  pub taken : answer_of r ≡ model.refused 4 → ⊥
  pub same : is_new (answer_of a) ≡ true → answer_of r ≡ answer_of a

-- the same, where k says whether the page was live
pub record LiveAnswer (k : Bool) (a r : Result Answer Refusal) : Type 0 where
  pub revived : k ≡ false → RevivedAnswer a r
  pub live : k ≡ true → r ≡ a

-- page g made live, where k says whether it was: it is revived, or nothing is done
pub record MakesLive (h : AdaptiveReceiverPacketWindow) (n : ℕ) (m : Memory) (l : List ℕ) (g : ℕ) (k : Bool) (r : PageReleased) (m' : Memory) (l' : List ℕ) : Type 0 where
  pub revived : k ≡ false → Revives h n m.sequences m.values m.pages m.blocks l g r m'.pages m'.blocks l'
  pub live : k ≡ true → (r ≡ record { window = h; count = 0; sound = true }) × (m' ≡ m) × (l' ≡ l)

-- the insert into page g, which was made live as x says
module _ (x : PageReleased) (m : Memory) (g n : ℕ) (k : Bool) (s v : ℕ) (r : Step) (m' : Memory) where
  pub record Entered : Type 0 where
    -- the answer of an insert into a live page
    pub given : Result Answer Refusal
    pub inserts : InsertsLive x.window m g n s v (record { window = r.window; answer = given }) m'
    pub answers : LiveAnswer k given r.answer.answer

  -- refusal 7 if the page's words do not fit each other
  pub record Enters : Type 0 where
    pub count : r.answer.count ≡ x.count
    pub unsound : x.sound ≡ false → (r.answer.answer ≡ Err Unsound) × (state_of r.window m' ≡ state_of x.window m)
    pub sound : x.sound ≡ true → Entered

-- ---- the point

abbrev pub is_found : model.Answer → Bool
is_found model.done = false
is_found model.new = false
is_found (model.replaced v) = false
is_found model.absent = false
is_found (model.found n) = true
is_found (model.pair s v next reads) = false
is_found (model.ended reads) = false
is_found (model.released values units) = false
is_found (model.refused k) = false

-- r is the step x of an insert of sequence s into the window w, with the point after it
pub record KeepsInserted (w : AdaptiveReceiverPacketWindow) (ss pages blocks : List ℕ) (s : ℕ) (x r : Step) : Type 0 where
  pub outcome : r.answer ≡ x.answer
  pub new : is_new (answer_of x.answer.answer) ≡ true → acknowledge.Inserts (with_sizes_of x.window w) ss pages blocks x.window s r.window
  pub old : is_new (answer_of x.answer.answer) ≡ false → r.window ≡ x.window

-- r is the step x of a remove of sequence s, with the point after it
pub record KeepsTaken (s : ℕ) (x r : Step) : Type 0 where
  pub outcome : r.answer ≡ x.answer
  pub window : r.window ≡ set_point x.window (after_remove_of x.window.base x.window.point s (is_found (answer_of x.answer.answer)))

-- r is the step x of a remove of the base of w, with the base moved by one if it was found, and the point after it
pub record MovesFront (w : AdaptiveReceiverPacketWindow) (ss pages blocks : List ℕ) (x r : Step) : Type 0 where
  pub outcome : r.answer ≡ x.answer
  pub found : is_found (answer_of x.answer.answer) ≡ true → MovesBase (with_sizes_of x.window w) ss pages blocks x.window (sequence_at_of w.base 1) r.window
  pub absent : is_found (answer_of x.answer.answer) ≡ false → r.window ≡ x.window
