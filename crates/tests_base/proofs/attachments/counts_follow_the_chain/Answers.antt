-- The two volumes of the test fit.
use Rattle.std.proofs.Common.{ℕ, List, [], ◌∷◌, sym, ◌∙◌, arith}
use Rattle.sm_refs.proofs.CallerLemmas.{IsPartOf, has_room, counted_at_first, counted_entered}
use Rattle.sm_base.specs.declared.names.Name.{Name}
use Rattle.sm_base.specs.declared.names.Name.TheVariants.{Vhd, Raw}
use Rattle.sm_refs.specs.Attached.{has, same_name}
use Rattle.std.proofs.lemmas.Bool.{or_left, or_right}
use Rattle.sm_refs.proofs.ChainLemmas.{has-one}
use Rattle.tests_base.proofs.attachments.counts_follow_the_chain.Goals as goal

-- the volumes of the test
abbrev all : List ℕ → List Name
all u = Vhd u ∷ Raw u ∷ []

leaf_part : (u : List ℕ) → IsPartOf (Vhd u ∷ []) (all u)
leaf_part u v h = or_left (same_name v (Vhd u)) (has (Raw u ∷ []) v) (sym (has-one (Vhd u) v) ∙ h)

base_part : (u : List ℕ) → IsPartOf (Raw u ∷ []) (all u)
base_part u v h = or_right (same_name v (Vhd u)) (has (Raw u ∷ []) v) h

pub enter-requires-clause-room_for_chain : goal.enter-requires-clause-room_for_chain
enter-requires-clause-room_for_chain g c =
    let u = c.from_bytes-disk.result in
    has_room (all u) c.in_ok-refs.refs (Vhd u ∷ []) (omega (arith, c.in_ok-refs.ensures.room)) (counted_at_first (all u) c.in_ok-refs.refs c.in_ok-refs.ensures.counts) (leaf_part u)

pub forked-requires-clause-room : goal.forked-requires-clause-room
forked-requires-clause-room g c =
    let u = c.from_bytes-disk.result in
    has_room (all u) c.enter.new.self (Raw u ∷ []) (omega (arith, c.in_ok-refs.ensures.room, c.enter.ensures.room))
    (counted_entered (all u) (Vhd u ∷ []) c.in_ok-refs.refs c.enter.new.self (counted_at_first (all u) c.in_ok-refs.refs c.in_ok-refs.ensures.counts) (leaf_part u) c.enter.ensures.counts) (base_part u)
