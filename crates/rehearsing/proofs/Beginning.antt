-- The second pass at tick i, over the lanes of the machine r before step 5: it starts task by task what step 5 starts,
-- and finds the next tick at which something happens.
use Prim.Native.Nat.{ℕ, suc, ◌+◌, ◌<◌, ◌≤◌, min}
use mathlib.Core.Path.{◌≡◌, refl, sym, ◌∙◌, ap}
use mathlib.Core.Bool.{Bool, true, false, cond, ◌&&◌}
use mathlib.Core.List.{List}
use native.Mathlib.Nat.{add-zero}
use native.Mathlib.Numerals.{add-one}
use native.Mathlib.Omega.{arith}
use borrow.Author.Tests.{le-leb}
use lib.Dec.{leb}
use lib.ListN.{get_or, set}
use lib.Seq.{set-get_or}
use Rattle.maths.specs.Tasks.{entry, tabulate}
use Rattle.maths.proofs.Arrays.{up_to, up_none, up_more, up_in, up-past}
use Rattle.table.specs.declared.Task.{Task}
use Rattle.table.specs.Limits.{most_tasks}
use Rattle.table.specs.Tasks.{τ}
use Rattle.admission.specs.Test.{row}
use Rattle.machine.specs.declared.Machine.{Machine}
use Rattle.machine.specs.Jobs.{job, waits, idle_cores, idle_partitions}
use Rattle.machine.specs.Steps.{begun}
use Rattle.machine.proofs.StateParts.{not-both}
use Rattle.ticking.specs.declared.Walk.{Walk}
use Rattle.ticking.specs.Code.Passes as ticking
use Rattle.ticking.proofs.TickFive.{below_suc}
use Rattle.conduct.specs.Lives.{life}
use Rattle.rehearsal.proofs.Times.{never}
use Rattle.rehearsing.specs.declared.lanes.Lane.{Lane}
use Rattle.rehearsing.specs.declared.track.Track.{Track}
use Rattle.rehearsing.specs.Code.Lanes.{no_lane, lane_waits, begun_lane, next_of}
use Rattle.rehearsing.specs.Code.Tracks.{lane_at, has_room, taken, track_begun, goes_on}
use Rattle.rehearsing.proofs.Walk.{walk, walk_more, starts_now}
use Rattle.rehearsing.specs.Code.Events.{lane_of, lanes_of, past_lane}

module _ (r : Machine) (i : ℕ) (s : List ℕ) where
  abbrev n : ℕ
  n = r.table.n

  abbrev readied_lane : ℕ → Lane
  readied_lane = lanes_of (suc i) r s

  abbrev pub moved_lane : ℕ → Lane
  moved_lane k =
      cond (leb k n)
      (lane_of (suc i) (row (τ r.table k)) (life (walk r k).job) (entry s k 0 + cond (starts_now r k) 1 0))
      (past_lane (entry s k 0))

  -- where step 5 goes on so, and the next tick is as far as found
  pub record Beginning (x : Track) (goes : Bool) (next : ℕ) (k : ℕ) : Type 0 where
    pub low : k ≤ n
    pub stored : x.lanes ≡ up_to most_tasks moved_lane readied_lane k
    pub cores : x.idle.cores ≡ (walk r k).cores
    pub partitions : x.idle.partitions ≡ (walk r k).partitions
    pub goes_so : goes ≡ (walk r k).goes
    pub below : (j : ℕ) → j < k → next ≤ next_of (moved_lane (suc j))
    pub above : (y : ℕ) → y ≤ never → ((j : ℕ) → j < k → y ≤ next_of (moved_lane (suc j))) → y ≤ next

  pub beginning_none : (x : Track) → x.lanes ≡ tabulate most_tasks readied_lane → x.idle.cores ≡ idle_cores r
      → x.idle.partitions ≡ idle_partitions r → Beginning x true never 0
  unfolding walk
  beginning_none x e c q =
      record {
        low = omega arith;
        stored = e ∙ up_none most_tasks moved_lane readied_lane;
        cores = c;
        partitions = q;
        goes_so = refl;
        below = λ j h. absurd (omega arith);
        above = λ y h a. h;
      }

  module _ (few : n ≤ most_tasks) (waits-is : (k : ℕ) → k < n → lane_waits (readied_lane (suc k)) ≡ waits r (suc k))
      (begun-is : (k : ℕ) → k < n → (held : ℕ) → waits r (suc k) ≡ true
      → begun_lane i (τ r.table (suc k)) (readied_lane (suc k))
      ≡ lane_of (suc i) (row (τ r.table (suc k))) (life (begun held (job r (suc k)))) (get_or s k 0 + 1))
      (x : Track) (goes : Bool) (next : ℕ) (k : ℕ) (b : Beginning x goes next k) (l : k < n) where
    abbrev τk : Task
    τk = τ r.table (suc k)

    abbrev lane : Lane
    lane = readied_lane (suc k)

    here : lane_at x k ≡ lane
    here = rw b.stored (up-past most_tasks moved_lane readied_lane k k no_lane (omega arith) (omega arith))

    -- the lane of a task that does not start, and of one that does
    stays-lane : (walk r (suc k)).job ≡ job r (suc k) → lane ≡ moved_lane (suc k)
    stays-lane e =
        let no : starts_now r (suc k) ≡ false = rw e (not-both (job r (suc k)).stage) in
        rw (le-leb (suc k) n l, no, e, add-zero (get_or s k 0))

    begun-lane : (held : ℕ) → waits r (suc k) ≡ true → (walk r (suc k)).job ≡ begun held (job r (suc k))
        → begun_lane i τk lane ≡ moved_lane (suc k)
    begun-lane held w e = begun-is k l held w ∙ rw (le-leb (suc k) n l, e, w)

    stored-as : (a : Lane) → a ≡ moved_lane (suc k)
        → set x.lanes k a ≡ up_to most_tasks moved_lane readied_lane (k + 1)
    stored-as a e = rw (e, b.stored) (up_more most_tasks moved_lane readied_lane k (omega (arith, few)))

    -- what the next turn keeps, whatever becomes of the task: the lanes and counts are those of z, the walk is v
    more : {y z : Track} {on : Bool} {v : Walk} → y ≡ z → walk r (suc k) ≡ v
        → z.lanes ≡ up_to most_tasks moved_lane readied_lane (k + 1) → z.idle.cores ≡ v.cores
        → z.idle.partitions ≡ v.partitions → on ≡ v.goes → (at : ℕ) → at ≡ min next (next_of (lane_at y k))
        → Beginning y on at (k + 1)
    more {y} e w s c q g at m =
        let stored : y.lanes ≡ up_to most_tasks moved_lane readied_lane (k + 1) =
        ap (λ (u : Track). u.lanes) e ∙ s in
        let this : lane_at y k ≡ moved_lane (suc k) =
        rw stored (up_in most_tasks moved_lane readied_lane (k + 1) k no_lane (omega arith) (omega (arith, few))) in
        let soonest : at ≡ min next (next_of (moved_lane (suc k))) =
        m ∙ ap (λ (u : Lane). min next (next_of u)) this in
        record {
          low = omega arith;
          stored = stored;
          cores = ap (λ (u : Track). u.idle.cores) e ∙ rw (add-one k, w) c;
          partitions = ap (λ (u : Track). u.idle.partitions) e ∙ rw (add-one k, w) q;
          goes_so = rw (add-one k, w) g;
          below = rw (add-one k)
              (below_suc (λ j. at ≤ next_of (moved_lane (suc j))) k
              (λ j h. omega (arith, soonest, b.below j h)) (omega (arith, soonest)));
          above = λ y h a.
              omega (arith, soonest, b.above y h (λ j m. a j (omega arith)), a k (omega arith));
        }

    waits-here : lane_waits (lane_at x k) ≡ waits r (suc k)
    waits-here = rw here (waits-is k l)

    room-is : has_room τk x ≡ ticking.has_room τk (walk r k)
    room-is = rw (b.cores, b.partitions)

    -- a task that does not start leaves all lanes
    stays : (walk r (suc k)).job ≡ job r (suc k) → x.lanes ≡ up_to most_tasks moved_lane readied_lane (k + 1)
    stays e =
        sym (set-get_or x.lanes k no_lane) ∙ stored-as (lane_at x k) (here ∙ stays-lane e)

    pub beginning_more : (y : Track) (on : Bool) (at : ℕ) → y ≡ cond goes (track_begun k i τk x) x
        → on ≡ cond goes (goes_on k τk x) false → at ≡ min next (next_of (lane_at y k)) → Beginning y on at (k + 1)
    beginning_more y on at e f m =
        by (walk r k).goes refl (waits r (suc k)) refl (ticking.has_room τk (walk r k)) refl
        (e ∙ rw (b.goes_so, waits-here, room-is)) (f ∙ rw (b.goes_so, waits-here, room-is)) (walk_more r k)
      where
        begun-track : Track
        begun-track = record { lanes = set x.lanes k (begun_lane i τk (lane_at x k)); idle = taken τk x.idle }

        by : (g : Bool) → (walk r k).goes ≡ g → (a : Bool) → waits r (suc k) ≡ a → (h : Bool)
            → ticking.has_room τk (walk r k) ≡ h
            → y ≡ cond g (cond a (cond h begun-track x) x) x
            → on ≡ cond g (cond a h true) false
            → walk r (suc k) ≡ cond (g && a) (cond h (ticking.walk_go (suc k) τk (job r (suc k)) 0 (walk r k))
            (ticking.walk_by false (job r (suc k)) 0 (walk r k)))
            (ticking.walk_by g (job r (suc k)) 0 (walk r k))
            → Beginning y on at (k + 1)
        by false u a v h p e f w = more e w (stays (ap (λ (z : Walk). z.job) w)) b.cores b.partitions f at m
        by true u false v h p e f w = more e w (stays (ap (λ (z : Walk). z.job) w)) b.cores b.partitions f at m
        by true u true v false p e f w = more e w (stays (ap (λ (z : Walk). z.job) w)) b.cores b.partitions f at m
        by true u true v true p e f w =
            more e w
            (stored-as _ (ap (begun_lane i τk) here ∙ begun-lane _ v (ap (λ (z : Walk). z.job) w)))
            (rw b.cores) (rw b.partitions) (f ∙ sym u) at m
