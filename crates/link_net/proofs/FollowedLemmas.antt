-- A trace goes on following the script of its link (docs/EXCHANGE.md, "Links").
use Rattle.std.proofs.Common.{List, [], ◌∷◌, ◌++◌, Bool, Option, Some, refl, sym, ap, subst, append_assoc, ◌∙◌}
use Rattle.std.proofs.lemmas.List.{append-nil}
use Rattle.exchange_trace.specs.declared.trace.Side.{Side}
use Rattle.exchange_trace.specs.declared.trace.Side.TheVariants as sides
use Rattle.exchange_trace.specs.Happenings.{DatagramView, HappeningView}
use Rattle.exchange_trace.specs.Lines.{Line}
use Rattle.exchange_trace.specs.Steps.{Note, Step, with_given, with_note, with_post}
use Rattle.exchange_trace.specs.Posts.{happenings_of, posted_in}
use Rattle.exchange_trace.specs.Following.{Plan, plan_after, plan_of}
use Rattle.link_net.specs.Links.{LinkGives, LinkState, scene_of, with_posted}
use Rattle.link_net.specs.Followed.{HasFollowed}

module _ (waiting : Side → List Step → Bool) (script : List Line) where
  pub followed_at_start : HasFollowed waiting script [] (record { posted = []; given = []; plan = Some (plan_of script) })
  followed_at_start = record { posted = refl; given = refl; plan = refl; follows = tt }

  -- what is given, where this was posted and given before, and this is left of the script
  abbrev GivesAt : (steps : List Step) → LinkState → HappeningView → List DatagramView → List HappeningView → Option Plan → Type 0
  GivesAt steps new h posted given plan =
      LinkGives (record { posted = posted; given = given; plan = plan }) new
      (record { posted = posted; happenings = given; loader_waits = waiting sides.Loader steps; target_waits = waiting sides.Target steps }) h

  pub followed_next : (steps : List Step) (old new : LinkState) (h : HappeningView) → HasFollowed waiting script steps old
      → LinkGives old new (scene_of old (waiting sides.Loader steps) (waiting sides.Target steps)) h → HasFollowed waiting script (with_given steps h) new
  followed_next steps old new h is gives =
      record {
        posted = here.posted ∙ sym (append-nil (posted_in steps));
        given = here.given;
        plan = here.follows.1;
        follows = (here.follows.0, is.follows);
      }
    where
      here : GivesAt steps new h (posted_in steps) (happenings_of steps) (Some (plan_after waiting script steps))
      here =
          subst (λ x. GivesAt steps new h (posted_in steps) (happenings_of steps) x) is.plan
          (subst (λ x. GivesAt steps new h (posted_in steps) x old.plan) is.given (subst (λ x. GivesAt steps new h x old.given old.plan) is.posted gives))

  module _ (s : Step) (earlier : List Step) (link : LinkState) (is : HasFollowed waiting script (s ∷ earlier) link) where
    pub followed_post : (d : DatagramView) → HasFollowed waiting script (with_post (s ∷ earlier) d) (with_posted link d)
    followed_post d =
        record {
          posted = ap (λ xs. xs ++ d ∷ []) is.posted ∙ append_assoc (posted_in earlier) s.posts (d ∷ []);
          given = is.given;
          plan = is.plan;
          follows = is.follows;
        }

    pub followed_note : (n : Note) → HasFollowed waiting script (with_note (s ∷ earlier) n) link
    followed_note n = record { posted = is.posted; given = is.given; plan = is.plan; follows = is.follows }
