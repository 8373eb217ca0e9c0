-- The grants in force by value: the lists received from the other end and those given to it, and where they stand in a state.
use Rattle.std.specs.Prelude.{ℕ, ◌+◌, ◌≡◌, List, ◌++◌, length, drop}
use Rattle.octets.specs.Parts.{part}
use Rattle.lists.specs.declared.WordList.{WordList}
use Rattle.lists.specs.Words.{address_words, route_words, no_addresses, no_routes}
use Rattle.state.specs.State.{received_at, given_at, table_at}
use Rattle.grant.specs.declared.Grants.{Grants}

-- no grants
abbrev pub no_grants : Grants
no_grants =
    record {
      received_addresses = no_addresses;
      received_routes = no_routes;
      given_addresses = no_addresses;
      given_routes = no_routes;
    }

-- exactly one list replaced
abbrev pub with_received_addresses : Grants → WordList address_words → Grants
with_received_addresses g l =
    record {
      received_addresses = l;
      received_routes = g.received_routes;
      given_addresses = g.given_addresses;
      given_routes = g.given_routes;
    }

abbrev pub with_received_routes : Grants → WordList route_words → Grants
with_received_routes g l =
    record {
      received_addresses = g.received_addresses;
      received_routes = l;
      given_addresses = g.given_addresses;
      given_routes = g.given_routes;
    }

abbrev pub with_given_addresses : Grants → WordList address_words → Grants
with_given_addresses g l =
    record {
      received_addresses = g.received_addresses;
      received_routes = g.received_routes;
      given_addresses = l;
      given_routes = g.given_routes;
    }

abbrev pub with_given_routes : Grants → WordList route_words → Grants
with_given_routes g l =
    record {
      received_addresses = g.received_addresses;
      received_routes = g.received_routes;
      given_addresses = g.given_addresses;
      given_routes = l;
    }

-- ---- in a state

-- the lists of a state
unfoldable pub grants_in : List ℕ → Grants
grants_in w =
    record {
      received_addresses = record { words = part w received_at address_words };
      received_routes = record { words = part w (received_at + address_words) route_words };
      given_addresses = record { words = part w given_at address_words };
      given_routes = record { words = part w (given_at + address_words) route_words };
    }

-- a state with these lists, and with its templates as they were
unfoldable pub put_grants : List ℕ → Grants → List ℕ
put_grants w g =
    g.received_addresses.words
    ++ (g.received_routes.words ++ (g.given_addresses.words ++ (g.given_routes.words ++ drop table_at w)))

-- the n words of a list, stored
pub record Stored (n : ℕ) (words after : List ℕ) : Type 0 where
  pub whole : after ≡ words
  pub size : length words ≡ n
