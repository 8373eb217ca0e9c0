-- Any calls: the same bytes, however they are cut, hand out the same capsules and leave the same lists and refusal. Assumes nothing.
use Prim.Native.Nat.{ℕ, ◌≤◌}
use mathlib.Core.Path.{◌≡◌, refl, sym, ap, ◌∙◌}
use mathlib.Core.List.{List, [], ◌∷◌, ◌++◌, append_assoc, append-nil, flatten}
use mathlib.Core.Logic.{inl, inr}
use lib.ListN.{length, drop}
use lib.Seq.{drop-append-le}
use Rattle.octets.specs.Big.{Bytes}
use Rattle.octets.proofs.BigLaws.{bytes-front, bytes_drop}
use Rattle.capsule.specs.Capsules.{Capsule}
use Rattle.state.specs.State.{State, state_in}
use Rattle.stream.specs.Feeding.{store_in, call_by, taken_by}
use Rattle.stream.specs.Buffer.{Told, ended, before}
use Rattle.stream.specs.Runs.{Ready, seen, lists_after, lists_after_all, Calls, no_call, call, Through}
use Rattle.stream.proofs.StepLaws.{resume, resume-end, resume-stopped}
use Rattle.stream.proofs.FeedLaws.{ready_open, call-follows}

before-before : (cs ds : List Capsule) (t : Told) → before cs (before ds t) ≡ before (cs ++ ds) t
before-before cs ds t = rw append_assoc

lists_append : (s : State) (cs ds : List Capsule) → lists_after_all (lists_after_all s cs) ds ≡ lists_after_all s (cs ++ ds)
lists_append s [] ds = refl
lists_append s (c ∷ cs) ds = lists_append (lists_after s c) cs ds

-- ---- any calls

-- the bytes s are given: what was left to the first call, and the pieces
pub record Follows (w held s : List ℕ) (handed : List Capsule) (later holds rest : List ℕ) : Type 0 where
  pub same : resume (store_in w held) s ≡ before handed (resume (store_in later holds) rest)
  pub lists : state_in later ≡ lists_after_all (state_in w) handed
  pub ready : Ready later holds

module _ (left p : List ℕ) (ps : List (List ℕ)) where
  pieces : left ++ flatten (p ∷ ps) ≡ (left ++ p) ++ flatten ps
  unfolding flatten
  pieces = sym (append_assoc left p (flatten ps))

  first-bytes : Bytes (left ++ flatten (p ∷ ps)) → Bytes (left ++ p)
  first-bytes b = bytes-front (left ++ p) (flatten ps) (rw pieces at b)

  rest-bytes : (n : ℕ) → n ≤ length (left ++ p) → Bytes (left ++ flatten (p ∷ ps)) → Bytes (drop n (left ++ p) ++ flatten ps)
  rest-bytes n h b = rw (drop-append-le n (left ++ p) (flatten ps) h) at (bytes_drop n ((left ++ p) ++ flatten ps) (rw pieces at b))

pub calls_follow : {w held left : List ℕ} {ps : List (List ℕ)} {handed : List Capsule} {later holds rest : List ℕ}
    → Calls w held left ps handed later holds rest → Ready w held → Bytes (left ++ flatten ps)
    → Follows w held (left ++ flatten ps) handed later holds rest
unfolding flatten
calls_follow (no_call {w} {held} {left}) k b = record { same = ap (resume (store_in w held)) (append-nil left); lists = refl; ready = k }
calls_follow (call {w} {held} {left} {p} {r = r} {mid} {now} {after} {list} {ps} {handed} {later} {holds} {rest} room x next) k b =
    let c = call-follows x k room (first-bytes left p ps b) in
    let n = calls_follow next c.ready (rest-bytes left p ps (taken_by r) c.within b) in
    let cs = seen (call_by r) after list (state_in mid) in
    record {
      same =
          ap (resume (store_in w held)) (pieces left p ps)
          ∙ c.same (flatten ps)
          ∙ ap (before cs) n.same
          ∙ before-before cs handed (resume (store_in later holds) rest);
      lists = n.lists ∙ ap (λ (s : State). lists_after_all s handed) c.lists ∙ lists_append (state_in w) cs handed;
      ready = n.ready;
    }

-- what came of calls that took all bytes, or were refused
abbrev pub came : List Capsule → List ℕ → List ℕ → Told
came handed later holds = record { handed = handed; refusal = (store_in later holds).stopped }

module _ {w held left : List ℕ} {ps : List (List ℕ)} {handed : List Capsule} {later holds rest : List ℕ} where
  pub calls_came : Calls w held left ps handed later holds rest → Ready w held → Bytes (left ++ flatten ps) → Through later holds rest
      → resume (store_in w held) (left ++ flatten ps) ≡ came handed later holds
  calls_came c k b e =
      let f = calls_follow c k b in
      f.same ∙ ap (before handed) (at-end f.ready e)
      ∙ ap (λ (cs : List Capsule). record { handed = cs; refusal = (store_in later holds).stopped }) (append-nil handed)
    where
      at-end : Ready later holds → Through later holds rest → resume (store_in later holds) rest ≡ ended (store_in later holds).stopped
      at-end g (inl z) = ap (resume (store_in later holds)) z ∙ resume-end (store_in later holds) (ready_open g)
      at-end g (inr z) = resume-stopped (store_in later holds) rest z
