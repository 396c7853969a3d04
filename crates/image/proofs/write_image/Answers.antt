-- The image stands at the front of the array, and what is handed over of it is the image. Assumes nothing.
use Rattle.prelude.proofs.Basics.{ℕ, ◌≤◌, arith, sym, ap, ◌∙◌, List, length, replicate, length-take-le}
use Rattle.session.specs.Words.{session_of}
use Rattle.encode.specs.Put.{written}
use Rattle.encode.proofs.PutsLaws.{front, front_within}
use Rattle.image_rules.specs.Image.{image_of, max_image}
use Rattle.image.specs.private.Handed.{handed}
use Rattle.image.proofs.write_image.Goals as goal

pub slice_bounds-hand_over-end : goal.slice_bounds-hand_over-end
slice_bounds-hand_over-end c =
    let room : length (image_of (session_of c.args.words.now))
    ≤ length (replicate {A = ℕ} max_image 0) = omega (arith, c.put_image-len.ensures.short) in
    sym (length-take-le c.put_image-len.result _ (front_within (room) c.put_image-len.ensures.put))

pub returns : goal.returns
returns c =
    let room : length (image_of (session_of c.args.words.now))
    ≤ length (replicate {A = ℕ} max_image 0) = omega (arith, c.put_image-len.ensures.short) in
    let b = c.args.buf.now in
    let image = front (room) c.put_image-len.ensures.put in record {
      answer =
          c.hand_over.ensures.answer ∙ ap (λ (l : List ℕ). handed l b) image;
      buffer =
          c.hand_over.ensures.buffer ∙ ap (λ (l : List ℕ). written b 0 l) image;
    }
