use Rattle.std.proofs.Common.{◌≡◌, ◌≤◌, ◌∙◌, List, ℕ, Some, length, take, drop, refl, sym, ap, subst, arith}
use Rattle.std.specs.Io.{StopsAt}
use Rattle.std.proofs.lemmas.List.{length-take, take_at, take-append-drop}
use Rattle.sm_disk.proofs.StreamLaws.{stops_through}
use Rattle.sm_host.proofs.streams.ReadSourceSource.read_until.Goals as goal

pub returns-in-Ok-clause-stops : goal.returns-in-Ok-clause-stops
returns-in-Ok-clause-stops g c =
    let bytes = c.in-Ok.bytes.now in
    let n = c.min-count.result in
    let through = c.length_through.result in
    let within : n ≤ through = omega (arith, c.min-count.ensures) in
    let long : length (take n bytes) ≡ n = omega (arith, length-take n bytes, c.length_through.ensures.within) in
    let short : length (take n bytes) ≤ through = omega (arith, long) in
    let front : c.copy_from_slice.new.self ≡ take n bytes = c.copy_from_slice.ensures.after in
    let stops : StopsAt (take n bytes) c.args.last = stops_through bytes (take n bytes) (Some (drop n bytes)) c.args.last through
    (drop n bytes, refl, sym (take-append-drop n bytes)) short c.length_through.ensures.before in
    let P : List ℕ → Type 0 = λ l. StopsAt l c.args.last in
    subst P (sym (take_at c.copy_from_slice.new.self (drop n c.args.to.now) n (ap length front ∙ long) ∙ front)) stops
