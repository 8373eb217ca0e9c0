-- A list, the table or the store's words in their part of a state: exactly that part means something else. Assumes nothing.
use Prim.Native.Nat.{ℕ, ◌+◌, ◌≤◌}
use mathlib.Core.Path.{◌≡◌, sym, ap, ◌∙◌}
use mathlib.Core.List.{List}
use native.Mathlib.Omega.{arith}
use lib.ListN.{length}
use Rattle.octets.specs.Parts.{part, with_part}
use Rattle.octets.proofs.Parts.{part-part, part-put, part-before, part-after}
use Rattle.lists.specs.Words.{address_words, route_words, entries_of, ranges_of}
use Rattle.policy.specs.Granted.{side_words}
use Rattle.table.specs.Words.{table_words, templates_of}
use Rattle.state.specs.State.{State, received_at, given_at, table_at, store_at, store_words, state_words, state_in}
use Rattle.state.specs.State.{addresses_received, routes_received, addresses_given, routes_given, templates_loaded}

-- the parts by where they stand in the state
pub state-parts : (w : List ℕ)
    → state_in w
    ≡ record {
      received =
          record {
            addresses = entries_of (part w received_at address_words);
            routes = ranges_of (part w (received_at + address_words) route_words);
          };
      given =
          record {
            addresses = entries_of (part w given_at address_words);
            routes = ranges_of (part w (given_at + address_words) route_words);
          };
      templates = templates_of (part w table_at table_words);
    }
state-parts w =
    rw (
      part-part w received_at side_words 0 address_words (omega arith),
      part-part w received_at side_words address_words route_words (omega arith),
      part-part w given_at side_words 0 address_words (omega arith),
      part-part w given_at side_words address_words route_words (omega arith),
    )

module _ (w v : List ℕ) (l : state_words ≤ length w) where
  pub received_addresses_put : length v ≡ address_words → state_in (with_part w received_at (received_at + address_words) v) ≡ addresses_received (state_in w) (entries_of v)
  received_addresses_put s =
      let h : received_at + address_words ≤ length w = omega arith in
      state-parts (with_part w received_at (received_at + address_words) v)
      ∙ rw (
        part-put w received_at address_words v s h,
        part-after w received_at address_words v s h (received_at + address_words) route_words (omega arith),
        part-after w received_at address_words v s h given_at address_words (omega arith),
        part-after w received_at address_words v s h (given_at + address_words) route_words (omega arith),
        part-after w received_at address_words v s h table_at table_words (omega arith),
      )
      (ap (λ (x : State). addresses_received x (entries_of v)) (sym (state-parts w)))

  pub received_routes_put : length v ≡ route_words → state_in (with_part w (received_at + address_words) (received_at + address_words + route_words) v) ≡ routes_received (state_in w) (ranges_of v)
  received_routes_put s =
      let h : received_at + address_words + route_words ≤ length w = omega arith in
      state-parts (with_part w (received_at + address_words) (received_at + address_words + route_words) v)
      ∙ rw (
        part-before w (received_at + address_words) route_words v s h received_at address_words (omega arith),
        part-put w (received_at + address_words) route_words v s h,
        part-after w (received_at + address_words) route_words v s h given_at address_words (omega arith),
        part-after w (received_at + address_words) route_words v s h (given_at + address_words) route_words (omega arith),
        part-after w (received_at + address_words) route_words v s h table_at table_words (omega arith),
      )
      (ap (λ (x : State). routes_received x (ranges_of v)) (sym (state-parts w)))

  pub given_addresses_put : length v ≡ address_words → state_in (with_part w given_at (given_at + address_words) v) ≡ addresses_given (state_in w) (entries_of v)
  given_addresses_put s =
      let h : given_at + address_words ≤ length w = omega arith in
      state-parts (with_part w given_at (given_at + address_words) v)
      ∙ rw (
        part-before w given_at address_words v s h received_at address_words (omega arith),
        part-before w given_at address_words v s h (received_at + address_words) route_words (omega arith),
        part-put w given_at address_words v s h,
        part-after w given_at address_words v s h (given_at + address_words) route_words (omega arith),
        part-after w given_at address_words v s h table_at table_words (omega arith),
      )
      (ap (λ (x : State). addresses_given x (entries_of v)) (sym (state-parts w)))

  pub given_routes_put : length v ≡ route_words → state_in (with_part w (given_at + address_words) (given_at + address_words + route_words) v) ≡ routes_given (state_in w) (ranges_of v)
  given_routes_put s =
      let h : given_at + address_words + route_words ≤ length w = omega arith in
      state-parts (with_part w (given_at + address_words) (given_at + address_words + route_words) v)
      ∙ rw (
        part-before w (given_at + address_words) route_words v s h received_at address_words (omega arith),
        part-before w (given_at + address_words) route_words v s h (received_at + address_words) route_words (omega arith),
        part-before w (given_at + address_words) route_words v s h given_at address_words (omega arith),
        part-put w (given_at + address_words) route_words v s h,
        part-after w (given_at + address_words) route_words v s h table_at table_words (omega arith),
      )
      (ap (λ (x : State). routes_given x (ranges_of v)) (sym (state-parts w)))

  pub templates-put : length v ≡ table_words → state_in (with_part w table_at (table_at + table_words) v) ≡ templates_loaded (state_in w) (templates_of v)
  templates-put s =
      let h : table_at + table_words ≤ length w = omega arith in
      state-parts (with_part w table_at (table_at + table_words) v)
      ∙ rw (
        part-before w table_at table_words v s h received_at address_words (omega arith),
        part-before w table_at table_words v s h (received_at + address_words) route_words (omega arith),
        part-before w table_at table_words v s h given_at address_words (omega arith),
        part-before w table_at table_words v s h (given_at + address_words) route_words (omega arith),
        part-put w table_at table_words v s h,
      )
      (ap (λ (x : State). templates_loaded x (templates_of v)) (sym (state-parts w)))

  -- the words of the store are no part of this
  pub store-put : length v ≡ store_words → state_in (with_part w store_at (store_at + store_words) v) ≡ state_in w
  store-put s =
      let h : store_at + store_words ≤ length w = omega arith in
      rw (
        part-before w store_at store_words v s h received_at side_words (omega arith),
        part-before w store_at store_words v s h given_at side_words (omega arith),
        part-before w store_at store_words v s h table_at table_words (omega arith),
      )
