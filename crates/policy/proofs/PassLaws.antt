-- The verdict on a flow: what lowering keeps, the two ends exchanged, and ICMP. Assumes nothing.
use Prim.Native.Nat.{ℕ, ◌≤◌}
use mathlib.Core.Bool.{Bool, true, false, ◌||◌, or_comm, or-true}
use mathlib.Core.Path.{◌≡◌, refl, sym, ◌∙◌}
use mathlib.Core.List.{List, [], ◌∷◌, ◌++◌}
use lib.Dec.{eqb}
use Rattle.answer.proofs.Tests.{and_both}
use Rattle.octets.specs.Parts.{part}
use Rattle.inet.specs.declared.Address.{Address}
use Rattle.inet.specs.Packet.{version_of, source_of, destination_of, protocol_of, icmp_in, is_icmp, lowered}
use Rattle.inet.specs.Fronts.{Addressed}
use Rattle.inet.proofs.HeaderLaws.{is_icmp_6}
use Rattle.inet.proofs.AddressLaws.{version-same, joined_source, joined_destination}
use Rattle.inet.proofs.LoweredLaws.{lowered_source_of, lowered-destination_of, lowered-protocol_of, lowered-is_icmp}
use Rattle.lists.specs.declared.RouteRange.{RouteRange}
use Rattle.octets.specs.Scan.{any_of}
use Rattle.lists.specs.Words.{max_addresses, address_words, route_words, count_of, ranges_of, sound_addresses, sound_routes}
use Rattle.lists.proofs.ListScans.{entries-within}
use Rattle.policy.specs.declared.Flow.{Flow}
use Rattle.policy.specs.Granted.{flow_of, covers, holds, admits, Side, side_in, sound_side, granted, passes, reversed}
use Rattle.policy.specs.Parts.{flow_with}

-- ---- flows

pub flow_parts : (p : List ℕ) (n : ℕ) {s d : Address} {v : ℕ} {i : Bool} → s ≡ source_of p → d ≡ destination_of p → v ≡ version_of p → i ≡ icmp_in v n
    → ◌≡◌ {A = Flow} (record { source = s; destination = d; protocol = n; icmp = i }) (flow_with n p)
unfolding flow_with
flow_parts p n e f g h = rw (e, f, h, g)

-- lowering a packet keeps all that its verdict depends on
pub flow_lowered : (p : List ℕ) → flow_of (lowered p) ≡ flow_of p
unfolding flow_of
flow_lowered p = rw (lowered_source_of p, lowered-destination_of p, lowered-protocol_of p, lowered-is_icmp p)

-- a packet that carries what it does: all else stands in its front
pub flow_joined : (front tail : List ℕ) → Addressed front → {n : ℕ} → n ≡ protocol_of (front ++ tail) → flow_with n front ≡ flow_of (front ++ tail)
unfolding flow_of flow_with is_icmp
flow_joined front tail a e =
    rw (e, joined_source front tail a, joined_destination front tail a, version-same front tail a)

-- protocol 1 is not ICMP in IPv6
pub icmp_6_not_1 : (p : List ℕ) → version_of p ≡ 6 → protocol_of p ≡ 1 → is_icmp p ≡ false
icmp_6_not_1 p v e = sym (is_icmp_6 p v) ∙ rw e

-- ---- the verdict

module _ (s r : Side) (f : Flow) where
  pub passes-granted : granted s f.source f.destination f ≡ true → passes s r f ≡ true
  unfolding passes
  passes-granted e = rw e

  pub passes_reply : {t : Bool} → granted s f.source f.destination f ≡ false → t ≡ granted r f.destination f.source f
      → t ≡ passes s r f
  unfolding passes
  passes_reply e q = rw e q

  -- the two sides exchanged, and the two ends
  pub passes-reversed : passes r s (reversed f) ≡ passes s r f
  unfolding passes
  passes-reversed = or_comm (granted r f.destination f.source f) (granted s f.source f.destination f)

-- ---- ICMP

-- whatever protocol a range names, it allows ICMP
pub admits-held : (a : Address) (p : ℕ) (rs : List RouteRange) → any_of (holds a) rs ≡ true → any_of (admits a p true) rs ≡ true
unfolding admits
admits-held a p [] h = h
admits-held a p (r ∷ rs) h = go (admits-held a p rs) (holds a r) refl h
  where
    go : (any_of (holds a) rs ≡ true → any_of (admits a p true) rs ≡ true) → (t : Bool) → holds a r ≡ t → (t || any_of (holds a) rs) ≡ true
        → (admits a p true r || any_of (admits a p true) rs) ≡ true
    go f true e q = rw (e, or-true (eqb r.protocol p), or-true (eqb r.protocol 0))
    go f false e q = rw e (f q)

module _ (s r : Side) where
  pub passes_icmp : (f : Flow) → f.icmp ≡ true → any_of (covers f.source) s.addresses ≡ true
      → any_of (holds f.destination) s.routes ≡ true → passes s r f ≡ true
  passes_icmp f i e h = passes-granted s r f (rw (i, e) (admits-held f.destination f.protocol s.routes h))

  -- the verdict on a packet is that on the packet as it goes on
  pub passes-lowered : (p : List ℕ) → passes s r (flow_of (lowered p)) ≡ passes s r (flow_of p)
  passes-lowered p = rw (flow_lowered p)

-- ---- the rules of a side

module _ (s : Side) where
  pub side_facts : sound_side s ≡ true → (sound_addresses s.addresses ≡ true) × (sound_routes s.routes ≡ true)
  unfolding sound_side
  side_facts e = and_both (sound_addresses s.addresses) (sound_routes s.routes) e

  pub facts_side : sound_addresses s.addresses ≡ true → sound_routes s.routes ≡ true → sound_side s ≡ true
  unfolding sound_side
  facts_side e f = rw e f

  pub side-broken : sound_addresses s.addresses ≡ false → false ≡ sound_side s
  unfolding sound_side
  side-broken e = rw e

  pub side-routes : {t : Bool} → sound_addresses s.addresses ≡ true → t ≡ sound_routes s.routes → t ≡ sound_side s
  unfolding sound_side
  side-routes e q = rw e q

-- a sound side's addresses are within their limit, and its routes keep their rules
module _ (w : List ℕ) (s : sound_side (side_in w) ≡ true) where
  pub addresses-within : count_of (part w 0 address_words) ≤ max_addresses
  addresses-within = entries-within (part w 0 address_words) (side_facts (side_in w) s).0

  pub routes-kept : sound_routes (ranges_of (part w address_words route_words)) ≡ true
  routes-kept = (side_facts (side_in w) s).1
