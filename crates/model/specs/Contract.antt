-- The contract of every exported call, as one record: what the call finds and what it leaves. A function's `ensures` cites it at
-- its own call. Document 01, 'Refusal by operation' and 'What a contract here must say'. Definitions only. Assumes nothing.
use Rattle.std.specs.Prelude.{◌≡◌, Bool, true, List, ℕ, ◌*◌, ◌≤◌, length, take, drop}
use Rattle.window.specs.declared.AdaptiveReceiverPacketWindow.{AdaptiveReceiverPacketWindow}
use Rattle.window.specs.Memory.{Memory, capacity, page_count_of, block_count_of, words_per_page, words_per_block}
use Rattle.window.specs.Refusals.{fits}
use Rattle.model.specs.Calls.{Call, Answer, refused}
use Rattle.model.specs.Roles.{role_of}
use Rattle.model.specs.Table.{first, argument_refusal}
use Rattle.model.specs.Window.{Window, decode}
use Rattle.model.specs.Steps.{Effect, known_by, window_step}
use Rattle.model.specs.Sound.{SoundWithPoint}

-- header and lent memory
pub record State : Type 0 where
  pub header : AdaptiveReceiverPacketWindow
  pub memory : Memory

abbrev pub window_of : State → Window
window_of u = decode u.header u.memory

-- what a call returns and leaves: its answer, how many values it returned, header and memory, and the return list, which is the
-- empty list for a call that takes none
pub record Left : Type 0 where
  pub answer : Answer
  pub count : ℕ
  pub state : State
  pub list : List ℕ

-- "All others: first 6, a header outside 1 to 3's limits or a list shorter than named."
abbrev pub lengths_fit : State → Bool
lengths_fit u = fits u.header (length u.memory.sequences) (length u.memory.values) (length u.memory.pages) (length u.memory.blocks)

abbrev pub refusal : State → Call → ℕ
refusal u c = first 6 (lengths_fit u) (argument_refusal (known_by u.header) c)

-- ---- the contract

-- "memory past the named lengths"
pub record SamePast (size : ℕ) (m m' : Memory) : Type 0 where
  pub sequences : drop (capacity size) m'.sequences ≡ drop (capacity size) m.sequences
  pub values : drop (capacity size) m'.values ≡ drop (capacity size) m.values
  pub pages : drop (words_per_page * page_count_of size) m'.pages ≡ drop (words_per_page * page_count_of size) m.pages
  pub blocks : drop (words_per_block * block_count_of size) m'.blocks ≡ drop (words_per_block * block_count_of size) m.blocks

pub record SameLengths (m m' : Memory) : Type 0 where
  pub sequences : length m'.sequences ≡ length m.sequences
  pub values : length m'.values ≡ length m.values
  pub pages : length m'.pages ≡ length m.pages
  pub blocks : length m'.blocks ≡ length m.blocks

-- nothing is altered, and nothing returned
pub record Unaltered (u : State) (l : List ℕ) (r : Left) : Type 0 where
  pub state : r.state ≡ u
  pub list : r.list ≡ l
  pub count : r.count ≡ 0

-- by a step of the window, on the windows that are Ok
module _ (step : Window → Call → Effect) (Ok : Window → Type 0) where
  -- what a call c gives on a window w that is Ok
  pub record DoesAs (c : Call) (w : Window) (r : Left) : Type 0 where
    pub answer : r.answer ≡ (step w c).answer
    pub window : window_of r.state ≡ (step w c).after
    pub returned : take r.count r.list ≡ (step w c).returned
    pub count : r.count ≡ length (step w c).returned

  -- a call c on state u with the return list l leaves r
  pub record MeetsAs (c : Call) (u : State) (l : List ℕ) (r : Left) : Type 0 where
    -- "Refusals 1 to 6 and 8 leave header and all lists as they came."; "Refusals that requests add leave header and all lists as they
    -- came unless said; those decided without the state come on an unsound one too"
    pub refuses : (refusal u c ≡ 0 → ⊥) → (r.answer ≡ refused (refusal u c)) × Unaltered u l r
    -- "For a sound state each exported call's answer, header, page and block words, cells in use and return list equal a definition"
    pub sound : refusal u c ≡ 0 → Ok (window_of u) → DoesAs c (window_of u) r
    pub occupied : refusal u c ≡ 0 → Ok (window_of u) → r.answer ≡ refused 4 → Unaltered u l r
    -- a refusal 4 returns nothing, on every state
    pub none_with_4 : r.answer ≡ refused 4 → r.count ≡ 0
    -- "check: then 7, exactly if not sound"
    pub unsound : (role_of c).checks ≡ true → refusal u c ≡ 0 → (Ok (window_of u) → ⊥) → r.answer ≡ refused 7
    -- "it never writes"
    pub reads : (role_of c).checks ≡ true → Unaltered u l r
    -- "Lists past the returned count, and memory past the named lengths, stay always"
    pub past_list : drop r.count r.list ≡ drop r.count l
    pub long_list : length r.list ≡ length l
    pub count_fits : r.count ≤ length l
    pub past_memory : SamePast u.header.window_size u.memory r.state.memory
    pub lengths : SameLengths u.memory r.state.memory

-- the contract of every exported call: the whole step, on sound windows
abbrev pub Does : Call → Window → Left → Type 0
Does = DoesAs window_step SoundWithPoint

abbrev pub Meets : Call → State → List ℕ → Left → Type 0
Meets = MeetsAs window_step SoundWithPoint
