-- The chain from record to record, as the two lent buffers hold them.
use Rattle.std.specs.Prelude.{Ok, Err}
use Rattle.std.specs.Prelude.{Bool, ◌&&◌, false, not, true, List, [], ◌++◌, ◌∷◌, ◌≡◌, ◌-◌, ◌≤◌, ℕ, length, replicate, take}
use Rattle.laws.specs.Out.{Out, and_then, fitted}
use Rattle.laws.specs.Pick.{pick}
use Rattle.planes.specs.Bytes.{size_of}
use Rattle.props.specs.Chain.{applies, entries_at, fold_chain}
use Rattle.props.specs.declared.entry.Property.{Property}
use Rattle.props.specs.declared.entry.PropertyEntry.{PropertyEntry}
use Rattle.stages.specs.declared.stage.Stage.{Stage}
use Rattle.stages.specs.inner.Held.{begins, form_after, moves, shown_after}
use Rattle.stages.specs.inner.Stage.{Gives, StageSound, record_after, stage_bytes}
use Rattle.plans.specs.declared.chain_plan.ChainPlan.{ChainPlan}
use Rattle.plans.specs.inner.ChainPlan.{chain_plan_after}

-- the same for a buffer of so many bytes: 17 where it is shorter
unfoldable pub step_run : Property → List ℕ → ℕ → Out (List ℕ)
step_run p s room = and_then (record_after p s) (fitted room)

-- the record that lies in output, or in the spare
unfoldable pub lying : Bool → ℕ → List ℕ → List ℕ → List ℕ
lying true n output spare = take n output
lying false n output spare = take n spare

-- whether an entry draws
unfoldable pub draws : Bool → PropertyEntry → Bool
draws essential_only e = applies essential_only e && moves e.property

-- every record on the way from bs has room in output and in the spare
unfoldable pub Roomy : ℕ → ℕ → Bool → List PropertyEntry → List ℕ → Type 0
Roomy output spare essential_only [] bs = Unit {0}
Roomy output spare essential_only (e ∷ es) bs =
    (b : List ℕ) × (pick (applies essential_only e) (record_after e.property bs) (Ok bs) ≡ Ok b)
    × (length b ≤ output) × (length b ≤ spare) × Roomy output spare essential_only es b

-- ---- what a chain has reached: a record in a buffer, or what a sight shows of it

-- where the record lies once what is shown is drawn
unfoldable pub settled_in : Stage → Bool
settled_in t = pick t.shown (not t.current.inside) t.current.inside

-- the record in a buffer
abbrev pub record_in : Stage → List ℕ → List ℕ → List ℕ
record_in t output spare = lying t.current.inside t.current.size output spare

-- the same of two buffers, each with room for both records
pub record Staged (t : Stage) (output spare : List ℕ) : Type 0 where
  pub sound : StageSound t (record_in t output spare)
  pub first : t.current.size ≤ length output
  pub other : t.current.size ≤ length spare
  pub long : size_of t.form ≤ length output
  pub broad : size_of t.form ≤ length spare

-- an entry on the record that is reached
abbrev pub entry_bytes : Bool → PropertyEntry → List ℕ → Out (List ℕ)
entry_bytes essential_only e bs = pick (applies essential_only e) (record_after e.property bs) (Ok bs)

-- it is not refused, and there is room for what it makes
pub record Able (essential_only : Bool) (e : PropertyEntry) (t : Stage) (output spare : List ℕ) : Type 0 where
  pub staged : Staged t output spare
  pub next : List ℕ
  pub made : entry_bytes essential_only e (stage_bytes t (record_in t output spare)) ≡ Ok next
  pub long : length next ≤ length output
  pub broad : length next ≤ length spare

-- a property on the record in a buffer is not refused, and there is room for what it makes
pub record Drawable (p : Property) (t : Stage) (output spare : List ℕ) : Type 0 where
  pub staged : Staged t output spare
  pub drawn : t.shown ≡ false
  pub next : List ℕ
  pub made : record_after p (record_in t output spare) ≡ Ok next
  pub long : length next ≤ length output
  pub broad : length next ≤ length spare

-- the form, side and kind of the next stage are the plan's
pub record Planned (essential_only : Bool) (e : PropertyEntry) (t u : Stage) : Type 0 where
  pub form : Gives (pick (applies essential_only e) (form_after e.property t.form) (Ok t.form)) u.form
  pub side : settled_in u ≡ pick (applies essential_only e && begins e.property t.form t.shown) (not (settled_in t)) (settled_in t)
  pub kind : u.shown ≡ pick (applies essential_only e) (shown_after e.property t.form t.shown) t.shown

-- a stage and its buffers, d and f before, with the bytes bs reached
pub record Arrived (bs d f : List ℕ) (t : Stage) (output spare : List ℕ) : Type 0 where
  pub staged : Staged t output spare
  pub bytes : stage_bytes t (record_in t output spare) ≡ bs
  pub long : length output ≡ length d
  pub broad : length spare ≡ length f

-- where a plan from a stage leads: output has the last record
pub record Lands (essential_only : Bool) (es : List PropertyEntry) (t : Stage) : Type 0 where
  pub longest : ℕ
  pub plan : ChainPlan
  pub run : fold_chain chain_plan_after essential_only es (record { form = t.form; longest = longest; even = settled_in t; shown = t.shown }) ≡ Ok plan
  pub even : plan.even ≡ true

-- a chain of so many entries from a place on can be drawn
pub record Ready (s : List ℕ) (count next : ℕ) (essential_only : Bool) (t : Stage) (output spare : List ℕ) : Type 0 where
  pub entries : List PropertyEntry
  pub read : entries_at count s next ≡ Ok entries
  pub staged : Staged t output spare
  pub lands : Lands essential_only entries t
  pub room : Roomy (length output) (length spare) essential_only entries (stage_bytes t (record_in t output spare))

-- the bytes that a chain of so many entries ends with; none where it is refused
unfoldable pub bytes_in : Out (List ℕ) → List ℕ
bytes_in (Err r) = []
bytes_in (Ok bs) = bs

unfoldable pub chain_bytes : List ℕ → ℕ → ℕ → Bool → List ℕ → List ℕ
chain_bytes s count next essential_only bs = bytes_in (and_then (entries_at count s next) (λ es. fold_chain record_after essential_only es bs))

-- how many bytes were written
unfoldable pub wrote_of : Out ℕ → ℕ
wrote_of (Ok n) = n
wrote_of (Err r) = 0

-- a chain was drawn: output, which was d and is e, begins with the bytes; both buffers are as long as they were
pub record Ended (n : ℕ) (bs d e f g : List ℕ) : Type 0 where
  pub size : n ≡ length bs
  pub begins : take n e ≡ bs
  pub inside : n ≤ length e
  pub output : length e ≡ length d
  pub spare : length g ≡ length f

-- and all else is zero
pub record Finished (a : Out ℕ) (bs d e f g : List ℕ) : Type 0 where
  pub answer : a ≡ Ok (length bs)
  pub output : e ≡ bs ++ replicate (length d - length bs) 0
  pub spare : g ≡ replicate (length f) 0
