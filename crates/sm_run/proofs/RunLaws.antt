-- A run, line by line.
use Rattle.std.proofs.Common.{◌≡◌, ◌≢◌, ◌⊎◌, inl, inr, ℕ, ◌+◌, ◌≤◌, arith, Bool, true, false, List, [], ◌∷◌, ◌++◌, map, length, take, length-append, append_assoc, Option, Result, Ok, Err, refl, sym, ap, ◌∙◌, subst}
use Rattle.std.specs.Prelude.{⊤, ◌==◌}
use Rattle.std.proofs.lemmas.Bool.Decides.{nat_tests}
use Rattle.std.proofs.lemmas.List.{append-nil, length-take, nil_from_length, take_at}
use Rattle.sm_disk.specs.Streams.{Takes, Adds}
use Rattle.sm_disk.proofs.StreamLaws.{Takes-none, Takes-then, Adds-none, Adds-then}
use Rattle.sm_machine.specs.Disks.{Disk}
use Rattle.sm_machine.specs.Lines.{line_limit, lines}
use Rattle.sm_machine.specs.Replies.{printed}
use Rattle.sm_machine.specs.Runs.{Turn, taken, after_run, replies, settles, face, trail_after, IsAsAfter}
use Rattle.sm_machine.specs.Steps.{State}
use Rattle.sm_run.specs.Parts.{front_of, is_in_line, turn_of, HasAnswered}
use Rattle.sm_run.specs.Runs.{script_limit, ended, lines_of, AreSpared, BeginsSettled, HasRun, HowFar, IsSpared, IsSpent, MayLeave}
use Rattle.sm_run.specs.declared.runs.RunFault.{RunFault}
use Rattle.sm_run.specs.declared.runs.RunFault.TheVariants.{Device, Source, Sink, TooLong}
use Rattle.sm_run.proofs.Growth.{after, after_run-push, during, settled}
use Rattle.sm_run.proofs.LineLaws.{ended-line, ended-part, front_of-short, lines-last, lines-line}

-- Every line so far was answered, and the next byte begins a line: whatever more comes, its lines follow theirs.
pub record SoFar (σ σ' : State) (had left had_got got : Option (List ℕ)) (room : ℕ) (may_leave : List Disk → Type 0) (is_ready is_kept : Type 0) : Type 0 where
  pub bytes : List ℕ
  pub turns : List Turn
  pub within : room + length bytes ≡ script_limit
  pub takes : Takes had bytes left
  pub adds : Adds had_got (replies σ turns) got
  pub cut : (more : List ℕ) → lines (bytes ++ more) ≡ lines_of turns ++ lines more
  pub cut_ended : (more : List ℕ) → ended (bytes ++ more) ≡ lines_of turns ++ ended more
  pub state : σ' ≡ after_run σ turns
  pub leaves : (ds : List Disk) → may_leave ds → IsAsAfter σ turns ds
  pub ready : is_ready
  pub kept : is_kept
  pub spared : AreSpared σ turns

-- ---- one turn more

lines_of-push : (turns : List Turn) (t : Turn) → lines_of (turns ++ t ∷ []) ≡ lines_of turns ++ t.line ∷ []
lines_of-push [] t = refl
lines_of-push (x ∷ turns) t = ap (λ ls. x.line ∷ ls) (lines_of-push turns t)

lines_of-more : (turns : List Turn) (t : Turn) (rest : List (List ℕ)) → lines_of turns ++ (t.line ∷ rest) ≡ lines_of (turns ++ t ∷ []) ++ rest
lines_of-more [] t rest = refl
lines_of-more (x ∷ turns) t rest = ap (λ ls. x.line ∷ ls) (lines_of-more turns t rest)

replies-push : (σ : State) (turns : List Turn) (t : Turn) → replies σ (turns ++ t ∷ []) ≡ replies σ turns ++ printed ((taken (after_run σ turns) t).reply)
unfolding replies after_run
replies-push σ [] t = append-nil (printed ((taken σ t).reply))
replies-push σ (x ∷ turns) t =
    ap (λ l. printed ((taken σ x).reply) ++ l) (replies-push ((taken σ x).after) turns t)
    ∙ sym (append_assoc (printed ((taken σ x).reply)) (replies ((taken σ x).after) turns) (printed ((taken (after_run ((taken σ x).after) turns) t).reply)))

replies-one : (σ : State) (t : Turn) → replies σ (t ∷ []) ≡ printed ((taken σ t).reply)
unfolding replies
replies-one σ t = append-nil (printed ((taken σ t).reply))

replies-none : (σ : State) → replies σ [] ≡ []
unfolding replies
replies-none σ = refl

lines-none : lines [] ≡ []
unfolding lines
lines-none = refl

ended-none : ended [] ≡ []
unfolding ended
ended-none = refl

spared-none : (σ : State) → AreSpared σ []
unfolding AreSpared
spared-none σ = tt

spared-push : (σ : State) (turns : List Turn) (t : Turn) → AreSpared σ turns → IsSpared (after_run σ turns) t → AreSpared σ (turns ++ t ∷ [])
unfolding AreSpared after_run
spared-push σ [] t all one = (one, tt)
spared-push σ (s ∷ turns) t all one = (all.0, spared-push ((taken σ s).after) turns t all.1 one)

told_true : (b : Bool) → (b ≡ true) ⊎ (b ≡ false)
told_true true = inl refl
told_true false = inr refl

-- ---- what a stop may leave

-- after a line that was answered
leaves-after : (σ σ' : State) (turns : List Turn) (line : List ℕ) (got got' : Option (List ℕ)) (before leaves : List Disk → Type 0) (is_ready is_kept : Type 0)
    → ((ds : List Disk) → before ds → IsAsAfter σ turns ds)
    → (a : HasAnswered (after_run σ turns) σ' line (Ok tt) got got' before leaves is_ready is_kept)
    → (ds : List Disk) → leaves ds → IsAsAfter σ (turns ++ turn_of line a.poor ∷ []) ds
leaves-after σ σ' turns line got got' before leaves is_ready is_kept was a ds h = by (told_true (settles (after_run σ turns) (turn_of line a.poor)))
  where
    by : (settles (after_run σ turns) (turn_of line a.poor) ≡ true) ⊎ (settles (after_run σ turns) (turn_of line a.poor) ≡ false)
        → IsAsAfter σ (turns ++ turn_of line a.poor ∷ []) ds
    by (inl all) = settled σ turns (turn_of line a.poor) ds all (a.settled all ds h)
    by (inr none) = after σ turns (turn_of line a.poor) before ds was none (a.crash ds h) (a.faces ds h)

-- with a line that was not
leaves-during : (σ σ' : State) (turns : List Turn) (line : List ℕ) (result : Result ⊤ RunFault) (got got' : Option (List ℕ)) (before leaves : List Disk → Type 0) (is_ready is_kept : Type 0)
    → ((ds : List Disk) → before ds → IsAsAfter σ turns ds)
    → (a : HasAnswered (after_run σ turns) σ' line result got got' before leaves is_ready is_kept)
    → (ds : List Disk) → leaves ds → MayLeave σ turns (turn_of line a.poor ∷ []) ds
leaves-during σ σ' turns line result got got' before leaves is_ready is_kept was a ds h = during σ turns (turn_of line a.poor) before ds was (a.crash ds h)

-- ---- the loop

pub so_far-begins : (σ : State) (had had_got : Option (List ℕ)) (room : ℕ) (may_leave : List Disk → Type 0) (is_ready is_kept : Type 0)
    → room ≡ script_limit → BeginsSettled σ may_leave → is_ready → is_kept
    → SoFar σ σ had had had_got had_got room may_leave is_ready is_kept
unfolding after_run replies trail_after IsAsAfter
so_far-begins σ had had_got room may_leave is_ready is_kept all begins ready kept = record {
  bytes = [];
  turns = [];
  within = omega (arith, all);
  takes = Takes-none had;
  adds = Adds-none had_got;
  cut = λ more. refl;
  cut_ended = λ more. refl;
  state = refl;
  leaves = λ ds h. record {
    faces = (begins ds h).faces;
    sectors = λ u k bytes is. (σ, inl refl, (begins ds h).sectors u k bytes is);
  };
  ready = ready;
  kept = kept;
  spared = spared-none σ;
}

-- the disks that a stop leaves are those that are there, but for their sectors
pub so_far-faces : (σ σ' : State) (had left had_got got : Option (List ℕ)) (room : ℕ) (may_leave : List Disk → Type 0) (is_ready is_kept : Type 0)
    → SoFar σ σ' had left had_got got room may_leave is_ready is_kept
    → (ds : List Disk) → may_leave ds → map face ds ≡ map face σ'.disks
unfolding IsAsAfter
so_far-faces σ σ' had left had_got got room may_leave is_ready is_kept s ds h =
    (s.leaves ds h).faces ∙ ap (λ (x : State). map face x.disks) (sym s.state)

long-line : (bytes line : List ℕ) → length (bytes ++ (line ++ 10 ∷ [])) ≡ length bytes + (length line + 1)
long-line bytes line = omega (arith, length-append bytes (line ++ 10 ∷ []), length-append line (10 ∷ []))

pub so_far-more : (σ σ1 σ2 : State) (had left left' had_got got got' : Option (List ℕ)) (room room' : ℕ) (leaves1 leaves2 : List Disk → Type 0) (ready1 kept1 ready2 kept2 : Type 0) (line : List ℕ)
    → SoFar σ σ1 had left had_got got room leaves1 ready1 kept1
    → is_in_line line ≡ true → Takes left (line ++ 10 ∷ []) left' → room' + (length line + 1) ≡ room
    → HasAnswered σ1 σ2 line (Ok tt) got got' leaves1 leaves2 ready2 kept2
    → SoFar σ σ2 had left' had_got got' room' leaves2 ready2 kept2
so_far-more σ σ1 σ2 had left left' had_got got got' room room' leaves1 leaves2 ready1 kept1 ready2 kept2 line s in_line took count answered =
    let a = subst (λ (x : State). HasAnswered x σ2 line (Ok tt) got got' leaves1 leaves2 ready2 kept2) s.state answered in
    let t = turn_of line a.poor in
    let tail = line ++ 10 ∷ [] in
    record {
      bytes = s.bytes ++ tail;
      turns = s.turns ++ t ∷ [];
      within = omega (arith, long-line s.bytes line, s.within, count);
      takes = Takes-then had left left' s.bytes tail s.takes took;
      adds = subst (λ l. Adds had_got l got') (sym (replies-push σ s.turns t)) (Adds-then had_got got got' (replies σ s.turns) (printed ((taken (after_run σ s.turns) t).reply)) s.adds a.replied);
      cut = λ more. ap lines (append_assoc s.bytes tail more ∙ ap (λ l. s.bytes ++ l) (append_assoc line (10 ∷ []) more))
          ∙ s.cut (line ++ 10 ∷ more) ∙ ap (λ ls. lines_of s.turns ++ ls) (lines-line line more in_line) ∙ lines_of-more s.turns t (lines more);
      cut_ended = λ more. ap ended (append_assoc s.bytes tail more ∙ ap (λ l. s.bytes ++ l) (append_assoc line (10 ∷ []) more))
          ∙ s.cut_ended (line ++ 10 ∷ more) ∙ ap (λ ls. lines_of s.turns ++ ls) (ended-line line more in_line) ∙ lines_of-more s.turns t (ended more);
      state = a.state ∙ sym (after_run-push σ s.turns t);
      leaves = leaves-after σ σ2 s.turns line got got' leaves1 leaves2 ready2 kept2 s.leaves a;
      ready = a.ready;
      kept = a.kept;
      spared = spared-push σ s.turns t s.spared a.spared;
    }

-- ---- the ends of a run

-- with no line whose reply is due
adds-whole : (σ : State) (turns : List Turn) (had got : Option (List ℕ)) → Adds had (replies σ turns) got
    → Adds had (replies σ turns ++ take 0 (replies (after_run σ turns) [])) got
adds-whole σ turns had got h =
    subst (λ l. Adds had l got) (sym (ap (λ l. replies σ turns ++ take 0 l) (replies-none (after_run σ turns)) ∙ append-nil (replies σ turns))) h

run-level : (σ σ' : State) (result : Result ⊤ RunFault) (had left left' had_got got : Option (List ℕ)) (room : ℕ) (may_leave : List Disk → Type 0) (is_ready is_kept : Type 0) (tail : List ℕ)
    → (s : SoFar σ σ' had left had_got got room may_leave is_ready is_kept)
    → Takes left tail left' → HowFar result (s.bytes ++ tail) s.turns [] 0 left'
    → HasRun σ σ' result had left' had_got got may_leave is_ready is_kept
run-level σ σ' result had left left' had_got got room may_leave is_ready is_kept tail s took far = record {
  bytes = s.bytes ++ tail;
  turns = s.turns;
  pending = [];
  sent = 0;
  takes = Takes-then had left left' s.bytes tail s.takes took;
  adds = adds-whole σ s.turns had_got got s.adds;
  how_far = far;
  state = λ _. s.state ∙ ap (after_run σ) (sym (append-nil s.turns));
  leaves = s.leaves;
  ready = λ _. s.ready;
  kept = s.kept;
  spared = subst (AreSpared σ) (sym (append-nil s.turns)) s.spared;
}

-- the source failed within a line
pub run-failed : (σ σ' : State) (had left left' had_got got : Option (List ℕ)) (room room' : ℕ) (may_leave : List Disk → Type 0) (is_ready is_kept : Type 0) (line : List ℕ)
    → SoFar σ σ' had left had_got got room may_leave is_ready is_kept
    → is_in_line line ≡ true → Takes left line left' → room' + length line ≡ room
    → HasRun σ σ' (Err Source) had left' had_got got may_leave is_ready is_kept
run-failed σ σ' had left left' had_got got room room' may_leave is_ready is_kept line s in_line took count =
    run-level σ σ' (Err Source) had left left' had_got got room may_leave is_ready is_kept line s took (record {
      within = omega (arith, length-append s.bytes line, s.within, count);
      answered = s.cut_ended line ∙ ap (λ ls. lines_of s.turns ++ ls) (ended-part line in_line) ∙ append-nil (lines_of s.turns);
      none_pending = refl;
    })

-- a byte came past the most of a script
pub run-past : (σ σ' : State) (had left left' had_got got : Option (List ℕ)) (room : ℕ) (may_leave : List Disk → Type 0) (is_ready is_kept : Type 0) (line : List ℕ) (b : ℕ)
    → SoFar σ σ' had left had_got got room may_leave is_ready is_kept
    → is_in_line line ≡ true → Takes left (line ++ b ∷ []) left' → length line ≡ room
    → HasRun σ σ' (Err TooLong) had left' had_got got may_leave is_ready is_kept
run-past σ σ' had left left' had_got got room may_leave is_ready is_kept line b s in_line took count =
    let full : length (s.bytes ++ line) ≡ script_limit = omega (arith, length-append s.bytes line, s.within, count) in
    run-level σ σ' (Err TooLong) had left left' had_got got room may_leave is_ready is_kept (line ++ b ∷ []) s took (record {
      past = omega (arith, length-append s.bytes (line ++ b ∷ []), length-append line (b ∷ []), s.within, count);
      answered = ap (λ l. ended (take script_limit l)) (sym (append_assoc s.bytes line (b ∷ [])))
          ∙ ap ended (take_at (s.bytes ++ line) (b ∷ []) script_limit full)
          ∙ s.cut_ended line ∙ ap (λ ls. lines_of s.turns ++ ls) (ended-part line in_line) ∙ append-nil (lines_of s.turns);
      none_pending = refl;
    })

-- the script ended behind a newline, or before any byte
pub run-done : (σ σ' : State) (had left left' had_got got : Option (List ℕ)) (room room' : ℕ) (may_leave : List Disk → Type 0) (is_ready is_kept : Type 0) (line : List ℕ)
    → SoFar σ σ' had left had_got got room may_leave is_ready is_kept
    → line ≡ [] → Takes left line left' → room' + length line ≡ room → IsSpent left'
    → HasRun σ σ' (Ok tt) had left' had_got got may_leave is_ready is_kept
run-done σ σ' had left left' had_got got room room' may_leave is_ready is_kept line s none took count spent =
    run-level σ σ' (Ok tt) had left left' had_got got room may_leave is_ready is_kept line s took (record {
      within = omega (arith, length-append s.bytes line, s.within, count);
      answered = s.cut line ∙ ap (λ ls. lines_of s.turns ++ ls) (ap lines none ∙ lines-none) ∙ append-nil (lines_of s.turns);
      none_pending = refl;
      at_end = spent;
    })

-- the last line that was read
pub record IsLastLine (bytes : List ℕ) (turns : List Turn) (line tail : List ℕ) (left : Option (List ℕ)) : Type 0 where
  pub within : length (bytes ++ tail) ≤ script_limit
  pub all : lines (bytes ++ tail) ≡ lines_of turns ++ line ∷ []
  pub whole : (ended (bytes ++ tail) ≡ lines (bytes ++ tail)) ⊎ IsSpent left

-- the line was answered no more
run-cut : (σ σ1 σ2 : State) (e : RunFault) (had left left' had_got got got' : Option (List ℕ)) (room : ℕ) (leaves1 leaves2 : List Disk → Type 0) (ready1 kept1 ready2 kept2 : Type 0) (line tail : List ℕ)
    → (s : SoFar σ σ1 had left had_got got room leaves1 ready1 kept1) → Takes left tail left' → IsLastLine s.bytes s.turns line tail left'
    → HasAnswered σ1 σ2 line (Err e) got got' leaves1 leaves2 ready2 kept2
    → HasRun σ σ2 (Err e) had left' had_got got' leaves2 ready2 kept2
run-cut σ σ1 σ2 Device had left left' had_got got got' room leaves1 leaves2 ready1 kept1 ready2 kept2 line tail s took last answered =
    let a = subst (λ (x : State). HasAnswered x σ2 line (Err Device) got got' leaves1 leaves2 ready2 kept2) s.state answered in
    let t = turn_of line a.poor in
    record {
      bytes = s.bytes ++ tail;
      turns = s.turns;
      pending = t ∷ [];
      sent = 0;
      takes = Takes-then had left left' s.bytes tail s.takes took;
      adds = Adds-then had_got got got' (replies σ s.turns) [] s.adds a.replied;
      how_far = (
        record {
          last = t;
          is_pending = refl;
          within = last.within;
          answered = last.all;
          whole = last.whole;
        },
        refl,
      );
      state = λ other. absurd (other refl);
      leaves = leaves-during σ σ2 s.turns line (Err Device) got got' leaves1 leaves2 ready2 kept2 s.leaves a;
      ready = λ other. absurd (other refl);
      kept = a.kept;
      spared = spared-push σ s.turns t s.spared a.spared;
    }
run-cut σ σ1 σ2 Sink had left left' had_got got got' room leaves1 leaves2 ready1 kept1 ready2 kept2 line tail s took last answered =
    let a = subst (λ (x : State). HasAnswered x σ2 line (Err Sink) got got' leaves1 leaves2 ready2 kept2) s.state answered in
    let t = turn_of line a.poor in
    let front = ap (take a.replied.0) (sym (replies-one (after_run σ s.turns) t)) in
    record {
      bytes = s.bytes ++ tail;
      turns = s.turns;
      pending = t ∷ [];
      sent = a.replied.0;
      takes = Takes-then had left left' s.bytes tail s.takes took;
      adds = Adds-then had_got got got' (replies σ s.turns) (take a.replied.0 (replies (after_run σ s.turns) (t ∷ []))) s.adds (subst (λ l. Adds got l got') front a.replied.2);
      how_far = record {
        last = t;
        is_pending = refl;
        within = last.within;
        answered = last.all;
        whole = last.whole;
      };
      state = λ _. a.state ∙ sym (after_run-push σ s.turns t);
      leaves = leaves-during σ σ2 s.turns line (Err Sink) got got' leaves1 leaves2 ready2 kept2 s.leaves a;
      ready = λ _. a.ready;
      kept = a.kept;
      spared = spared-push σ s.turns t s.spared a.spared;
    }
run-cut σ σ1 σ2 Source had left left' had_got got got' room leaves1 leaves2 ready1 kept1 ready2 kept2 line tail s took last answered = absurd answered.replied
run-cut σ σ1 σ2 TooLong had left left' had_got got got' room leaves1 leaves2 ready1 kept1 ready2 kept2 line tail s took last answered = absurd answered.replied

-- a line with its newline was not answered whole
pub run-cut_line : (σ σ1 σ2 : State) (e : RunFault) (had left left' had_got got got' : Option (List ℕ)) (room room' : ℕ) (leaves1 leaves2 : List Disk → Type 0) (ready1 kept1 ready2 kept2 : Type 0) (line : List ℕ)
    → SoFar σ σ1 had left had_got got room leaves1 ready1 kept1
    → is_in_line line ≡ true → Takes left (line ++ 10 ∷ []) left' → room' + (length line + 1) ≡ room
    → HasAnswered σ1 σ2 line (Err e) got got' leaves1 leaves2 ready2 kept2
    → HasRun σ σ2 (Err e) had left' had_got got' leaves2 ready2 kept2
run-cut_line σ σ1 σ2 e had left left' had_got got got' room room' leaves1 leaves2 ready1 kept1 ready2 kept2 line s in_line took count answered =
    let all = s.cut (line ++ 10 ∷ []) ∙ ap (λ ls. lines_of s.turns ++ ls) (lines-line line [] in_line ∙ ap (λ ls. line ∷ ls) lines-none) in
    let with_newline = s.cut_ended (line ++ 10 ∷ []) ∙ ap (λ ls. lines_of s.turns ++ ls) (ended-line line [] in_line ∙ ap (λ ls. line ∷ ls) ended-none) in
    run-cut σ σ1 σ2 e had left left' had_got got got' room leaves1 leaves2 ready1 kept1 ready2 kept2 line (line ++ 10 ∷ []) s took (record {
      within = omega (arith, long-line s.bytes line, s.within, count);
      all = all;
      whole = inl (with_newline ∙ sym all);
    }) answered

not_empty : (line : List ℕ) → (line ≡ [] → ⊥) → is_in_line line ≡ true → lines line ≡ line ∷ []
not_empty [] some h = absurd (some refl)
not_empty (b ∷ line) some h = lines-last b line h

-- the line that the script's end ends
pub run-last : (σ σ1 σ2 : State) (result : Result ⊤ RunFault) (had left left' had_got got got' : Option (List ℕ)) (room room' : ℕ) (leaves1 leaves2 : List Disk → Type 0) (ready1 kept1 ready2 kept2 : Type 0) (line : List ℕ)
    → SoFar σ σ1 had left had_got got room leaves1 ready1 kept1
    → is_in_line line ≡ true → (line ≡ [] → ⊥) → Takes left line left' → room' + length line ≡ room → IsSpent left'
    → HasAnswered σ1 σ2 line result got got' leaves1 leaves2 ready2 kept2
    → HasRun σ σ2 result had left' had_got got' leaves2 ready2 kept2
run-last σ σ1 σ2 (Err e) had left left' had_got got got' room room' leaves1 leaves2 ready1 kept1 ready2 kept2 line s in_line some took count spent answered =
    run-cut σ σ1 σ2 e had left left' had_got got got' room leaves1 leaves2 ready1 kept1 ready2 kept2 line line s took (record {
      within = omega (arith, length-append s.bytes line, s.within, count);
      all = s.cut line ∙ ap (λ ls. lines_of s.turns ++ ls) (not_empty line some in_line);
      whole = inr spent;
    }) answered
run-last σ σ1 σ2 (Ok _) had left left' had_got got got' room room' leaves1 leaves2 ready1 kept1 ready2 kept2 line s in_line some took count spent answered =
    let a = subst (λ (x : State). HasAnswered x σ2 line (Ok tt) got got' leaves1 leaves2 ready2 kept2) s.state answered in
    let t = turn_of line a.poor in
    record {
      bytes = s.bytes ++ line;
      turns = s.turns ++ t ∷ [];
      pending = [];
      sent = 0;
      takes = Takes-then had left left' s.bytes line s.takes took;
      adds = adds-whole σ (s.turns ++ t ∷ []) had_got got' (subst (λ l. Adds had_got l got') (sym (replies-push σ s.turns t)) (Adds-then had_got got got' (replies σ s.turns) (printed ((taken (after_run σ s.turns) t).reply)) s.adds a.replied));
      how_far = record {
        within = omega (arith, length-append s.bytes line, s.within, count);
        answered = s.cut line ∙ ap (λ ls. lines_of s.turns ++ ls) (not_empty line some in_line) ∙ sym (lines_of-push s.turns t);
        none_pending = refl;
        at_end = spent;
      };
      state = λ _. a.state ∙ sym (after_run-push σ s.turns t) ∙ ap (after_run σ) (sym (append-nil (s.turns ++ t ∷ [])));
      leaves = leaves-after σ σ2 s.turns line got got' leaves1 leaves2 ready2 kept2 s.leaves a;
      ready = λ _. a.ready;
      kept = a.kept;
      spared = subst (AreSpared σ) (sym (append-nil (s.turns ++ t ∷ []))) (spared-push σ s.turns t s.spared a.spared);
    }

-- a line of which the buffer keeps nothing is empty
pub empty-front : (line : List ℕ) → front_of line ≡ [] → line ≡ []
unfolding front_of
empty-front line h =
    let short : length (take (line_limit + 1) line) ≡ 0 = ap length h in
    nil_from_length line (omega (arith, length-take (line_limit + 1) line, short))

-- the buffer of an empty line is empty
pub front-empty : (line : List ℕ) → line ≡ [] → front_of line ≡ []
front-empty line h = ap front_of h ∙ front_of-short [] (omega arith)

-- ---- what the tests of the loop tell

pub empty-buffer : (buffer : List ℕ) (r : Bool) → r ≡ (length buffer == 0) → r ≡ true → buffer ≡ []
empty-buffer buffer r is h = let none : length buffer ≡ 0 = grind (arith, nat_tests) in nil_from_length buffer none

pub some-line : (line buffer : List ℕ) (r : Bool) → buffer ≡ front_of line → r ≡ (length buffer == 0) → r ≡ false → line ≡ [] → ⊥
some-line line buffer r kept is h none =
    let long : length buffer ≡ 0 = ap length (kept ∙ front-empty line none) in
    let test : (length buffer == 0) ≡ true = ap (λ n. n == 0) long in
    absurd (let clash : false ≡ true = sym h ∙ is ∙ test in cc)

pub ok-no_fault : (result : Result ⊤ RunFault) (u : ⊤) (e : RunFault) → result ≡ Ok u → result ≢ Err e
ok-no_fault result u e is = λ clash. absurd (let both : Ok u ≡ Err e = sym is ∙ clash in cc)
