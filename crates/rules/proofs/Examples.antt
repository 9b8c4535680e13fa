-- The worked examples, computed.
use Rattle.std.proofs.Common.{◌≡◌, ℕ, Some, None, refl, subst, inl, inr, arith}
use Rattle.rules.specs.Sending.{BduKey, Sending, Next, Idle}
use Rattle.rules.specs.Choice.{chosen, Chosen}
use Rattle.rules.specs.Examples.{loaded, full, one_gone, both_gone, key, FiveExamples, MoreExamples}
use Rattle.rules.proofs.Choice.{finds_next}

-- the search finds it, so it is the BDU to send
pub next : (S : Sending) (b : BduKey) → chosen S.packets 128 ≡ Some b → (t : ℕ) × Next S b t
next S b e = subst (Chosen S) e (finds_next S)

pub idle : (S : Sending) → chosen S.packets 128 ≡ None → Idle S
idle S e = subst (Chosen S) e (finds_next S)

busy : (S : Sending) (b : BduKey) → chosen S.packets 128 ≡ Some b → Idle S → ⊥
busy S b e i = let n = next S b e in i b n.0 n.1.here

pub five : FiveExamples
five = record {
  two_bdus = refl;
  first_more = refl;
  first_header = refl;
  first_part = refl;
  second_more = refl;
  second_header = refl;
  second_part = refl;
  eight_awaited = refl;
  nine_not_awaited = refl;
  behind_not_awaited = refl;
  round = refl;
  on_its_way = refl;
  returned = refl;
  pending = refl;
  none_expires = refl;
  expires = refl;
  expiry = refl;
  rests = refl;
  free = refl;
  free_at_once = refl;
  expires_at_once = refl;
}

pub more : MoreExamples
unfolding chosen
more = record {
  first_rn = refl;
  next_rn = refl;
  goes_round = refl;
  sends = (next (loaded 10) (key 0) refl, omega arith, omega arith, refl, refl, refl, refl);
  sends_first = (next full (key 0) refl, omega arith, omega arith, refl, refl, refl, refl);
  sends_second = (next one_gone (key 1) refl, omega arith, omega arith, refl, refl, refl, refl);
  sends_none = (idle both_gone refl, refl);
  sends_no_ninth = (busy full (key 0) refl, omega arith, refl);
  waits_again = refl;
  same_number = refl;
  confirms = refl;
  frees = refl;
  moves = refl;
  loses_its_bdu = refl;
  late_report = refl;
  unused_refused = inr (0, refl, refl);
  returned_refused = inr (0, refl, refl);
  ahead_refused = inl (omega arith);
  behind_refused = inl (omega arith);
  flag_refused = inr (1, refl, refl);
  held = refl;
  flagged = refl;
  number_again = refl;
  bdu_again = refl;
  past_last = refl;
  whole = refl;
  young = refl;
  old = refl;
}
