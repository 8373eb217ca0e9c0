-- A sound side's lists keep what the two searches require. Assumes nothing.
use Rattle.policy.proofs.PassLaws.{addresses-within, routes-kept}
use borrow.Author.Rules.{rules}
use Rattle.policy.proofs.granted.Goals as goal

pub any_covers-requires : goal.any_covers-requires
any_covers-requires c = record { address_words_in_bounds = search rules; count_bound = addresses-within c.args.side.now c.requires.sides_sound }

pub any_admits-requires : goal.any_admits-requires
any_admits-requires c = record { route_words_in_bounds = search rules; routes_sound = routes-kept c.args.side.now c.requires.sides_sound }
