-- So many buffers have been made, and the stack has a place for the others.
use Rattle.std.proofs.Common.{◌≡◌, ◌≤◌, replicate, All, vec_len, vec_capacity}
use Rattle.sm_pool.proofs.zeroed.Given as goal

abbrev pub invariant-loop : goal.invariant-loop
invariant-loop l = record {
  made : vec_len l.buffers ≡ l.counter;
  zeros : All (λ b. b.items ≡ replicate l.bytes 0) l.buffers.items;
  room : l.count ≤ vec_capacity l.buffers;
}
