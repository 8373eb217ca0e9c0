-- The grants of a state: loaded, one list replaced, and stored again they are the state with that one list stored, so it means what it meant with
-- exactly that list replaced. Assumes nothing.
use Prim.Native.Nat.{ℕ, ◌+◌, ◌-◌, ◌≤◌}
use mathlib.Core.Path.{◌≡◌, refl, sym, ap, ◌∙◌}
use mathlib.Core.List.{List, [], ◌++◌, append_assoc}
use native.Mathlib.Omega.{arith}
use lib.ListN.{length, take, drop, length-append}
use borrow.Rule.Slice.PartMut.{put_mid}
use Rattle.octets.specs.Parts.{part, with_part}
use Rattle.octets.proofs.Parts.{part-rest, front-part, put-part, put_next}
use Rattle.lists.specs.declared.WordList.{WordList}
use Rattle.lists.specs.Words.{address_words, route_words, no_addresses, no_routes, entries_of, ranges_of}
use Rattle.state.specs.State.{received_at, given_at, table_at, state_words, state_in, addresses_received, routes_received, addresses_given, routes_given}
use Rattle.state.proofs.StoreLaws.{received_addresses_put, received_routes_put, given_addresses_put, given_routes_put}
use Rattle.grant.specs.Lists.{no_grants, grants_in, put_grants, Stored}
use Rattle.grant.specs.Lists.{with_received_addresses, with_received_routes, with_given_addresses, with_given_routes}

pub empty-parts : {a : WordList address_words} {b : WordList route_words} → a ≡ no_addresses → b ≡ no_routes
    → record { received_addresses = a; received_routes = b; given_addresses = a; given_routes = b } ≡ no_grants
empty-parts e f = rw (e, f)

pub loaded : (w : List ℕ) {a b c d : List ℕ}
    → a ≡ part w received_at address_words → b ≡ part w (received_at + address_words) route_words
    → c ≡ part w given_at address_words → d ≡ part w (given_at + address_words) route_words
    → record {
      received_addresses = record { words = a };
      received_routes = record { words = b };
      given_addresses = record { words = c };
      given_routes = record { words = d };
    } ≡ grants_in w
unfolding grants_in
loaded w e f g h = rw (e, f, g, h)

-- ---- the four lists stored one after the other

-- behind words of a place that are stored, those of n more
store-next : (f w : List ℕ) {v u : List ℕ} (a n : ℕ) → length f ≡ a → Stored n v u
    → (put_mid a n (f ++ drop a w) u ≡ (f ++ v) ++ drop (a + n) w) × (length (f ++ v) ≡ a + n)
store-next f w {v} {u} a n l s =
    let q : a + n - a ≡ n = omega arith in (
      ap (λ (k : ℕ). put_mid a k (f ++ drop a w) u) (sym q)
          ∙ put-part (f ++ drop a w) a (a + n) u (omega arith)
          ∙ put_next f w u a (a + n) l (omega arith)
          ∙ ap (λ (x : List ℕ). (f ++ x) ++ drop (a + n) w) s.whole,
      length-append f v ∙ rw (l, s.size),
    )

pub put_steps : (w : List ℕ) {a b c d a₁ b₁ c₁ d₁ : List ℕ}
    → Stored address_words a a₁ → Stored route_words b b₁ → Stored address_words c c₁ → Stored route_words d d₁
    → put_mid (given_at + address_words) route_words
    (put_mid given_at address_words (put_mid (received_at + address_words) route_words (put_mid received_at address_words w a₁) b₁) c₁) d₁
    ≡ a ++ (b ++ (c ++ (d ++ drop table_at w)))
put_steps w {a} {b} {c} {d} {a₁} {b₁} {c₁} {d₁} sa sb sc sd =
    let first = store-next [] w received_at address_words refl sa in
    let second = store-next a w (received_at + address_words) route_words first.1 sb in
    let third = store-next (a ++ b) w given_at address_words second.1 sc in
    let fourth = store-next ((a ++ b) ++ c) w (given_at + address_words) route_words third.1 sd in
    ap (λ (x : List ℕ). put_mid (given_at + address_words) route_words (put_mid given_at address_words (put_mid (received_at + address_words) route_words x b₁) c₁) d₁) first.0
    ∙ ap (λ (x : List ℕ). put_mid (given_at + address_words) route_words (put_mid given_at address_words x c₁) d₁) second.0
    ∙ ap (λ (x : List ℕ). put_mid (given_at + address_words) route_words x d₁) third.0
    ∙ fourth.0
    ∙ append_assoc ((a ++ b) ++ c) d (drop table_at w)
    ∙ append_assoc (a ++ b) c (d ++ drop table_at w)
    ∙ append_assoc a b (c ++ (d ++ drop table_at w))

-- ---- one list replaced

module _ (w : List ℕ) where
  -- where each list starts, and where the last one ends
  abbrev routesAt : ℕ
  routesAt = received_at + address_words

  abbrev givenRoutesAt : ℕ
  givenRoutesAt = given_at + address_words

  -- the words from each list on
  from_given_routes : part w givenRoutesAt route_words ++ drop table_at w ≡ drop givenRoutesAt w
  from_given_routes = part-rest w givenRoutesAt route_words

  from_given_addresses : part w given_at address_words ++ (part w givenRoutesAt route_words ++ drop table_at w) ≡ drop given_at w
  from_given_addresses = ap (λ (l : List ℕ). part w given_at address_words ++ l) from_given_routes ∙ part-rest w given_at address_words

  from_received_routes : part w routesAt route_words
      ++ (part w given_at address_words ++ (part w givenRoutesAt route_words ++ drop table_at w)) ≡ drop routesAt w
  from_received_routes = ap (λ (l : List ℕ). part w routesAt route_words ++ l) from_given_addresses ∙ part-rest w routesAt route_words

  -- the words up to a list, before others
  up_to_given : (l : List ℕ) → part w received_at address_words ++ (part w routesAt route_words ++ l) ≡ take given_at w ++ l
  up_to_given l =
      sym (append_assoc (part w received_at address_words) (part w routesAt route_words) l)
      ∙ ap (λ (f : List ℕ). f ++ l) (front-part w routesAt route_words)

  up_to_given-routes : (l : List ℕ) → part w received_at address_words ++ (part w routesAt route_words ++ (part w given_at address_words ++ l))
      ≡ take givenRoutesAt w ++ l
  up_to_given-routes l =
      up_to_given (part w given_at address_words ++ l)
      ∙ sym (append_assoc (take given_at w) (part w given_at address_words) l)
      ∙ ap (λ (f : List ℕ). f ++ l) (front-part w given_at address_words)

  module _ (l : WordList address_words) where
    pub put_received_addresses : put_grants w (with_received_addresses (grants_in w) l) ≡ with_part w received_at (received_at + address_words) l.words
    unfolding put_grants grants_in
    put_received_addresses = ap (λ (x : List ℕ). l.words ++ x) from_received_routes

    pub put_given_addresses : put_grants w (with_given_addresses (grants_in w) l) ≡ with_part w given_at (given_at + address_words) l.words
    unfolding put_grants grants_in
    put_given_addresses =
        ap (λ (x : List ℕ). part w received_at address_words ++ (part w routesAt route_words ++ (l.words ++ x))) from_given_routes
        ∙ up_to_given (l.words ++ drop givenRoutesAt w)

  module _ (l : WordList route_words) where
    pub put_received_routes : put_grants w (with_received_routes (grants_in w) l)
        ≡ with_part w (received_at + address_words) (received_at + address_words + route_words) l.words
    unfolding put_grants grants_in
    put_received_routes =
        ap (λ (x : List ℕ). part w received_at address_words ++ (l.words ++ x)) from_given_addresses

    pub put_given_routes : put_grants w (with_given_routes (grants_in w) l)
        ≡ with_part w (given_at + address_words) (given_at + address_words + route_words) l.words
    unfolding put_grants grants_in
    put_given_routes = up_to_given-routes (l.words ++ drop table_at w)

-- ---- what it means

module _ (w : List ℕ) (h : state_words ≤ length w) where
  module _ (l : WordList address_words) (s : length l.words ≡ address_words) where
    pub state_received_addresses : state_in (put_grants w (with_received_addresses (grants_in w) l)) ≡ addresses_received (state_in w) (entries_of l.words)
    state_received_addresses = ap state_in (put_received_addresses w l) ∙ received_addresses_put w l.words h s

    pub state_given_addresses : state_in (put_grants w (with_given_addresses (grants_in w) l)) ≡ addresses_given (state_in w) (entries_of l.words)
    state_given_addresses = ap state_in (put_given_addresses w l) ∙ given_addresses_put w l.words h s

  module _ (l : WordList route_words) (s : length l.words ≡ route_words) where
    pub state_received_routes : state_in (put_grants w (with_received_routes (grants_in w) l)) ≡ routes_received (state_in w) (ranges_of l.words)
    state_received_routes = ap state_in (put_received_routes w l) ∙ received_routes_put w l.words h s

    pub state_given_routes : state_in (put_grants w (with_given_routes (grants_in w) l)) ≡ routes_given (state_in w) (ranges_of l.words)
    state_given_routes = ap state_in (put_given_routes w l) ∙ given_routes_put w l.words h s
