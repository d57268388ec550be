use Rattle.std.proofs.Common.{◌≡◌, ◌∙◌, [], length, ap}
use Rattle.guest_asm.specs.Addresses.{start}
use Rattle.guest_asm.specs.Image.{file_header, program_header, bytes_from, image_of}
use Rattle.guest_asm.proofs.WordRuns.{put_part, put_three}
use Rattle.guest_asm.proofs.image.image_of.Goals as goal

pub returns : goal.returns
unfolding image_of
returns c =
    let bytes : c.as_slice-bytes.result.now ≡ bytes_from start c.args.words.now = c.as_slice-bytes.ensures.value ∙ c.in_ok-segment.ensures.value in
    let count : length c.as_slice-bytes.result.now ≡ length (bytes_from start c.args.words.now) = ap length bytes in
    let header = put_part [] c.in_ok-image.image.items c.put_words.new.bytes.items _ c.in_ok-image.ensures.items c.in_ok-put_words.ensures in
    let headers = put_part _ c.put_words.new.bytes.items c.put_words-2.new.bytes.items _ header c.in_ok-put_words-2.ensures in
    let whole = put_part _ c.put_words-2.new.bytes.items c.extend_from_slice.new.self.items _ headers c.in_ok-extend_from_slice.ensures.items in
    whole ∙ put_three _ _ _ (file_header c.args.entry) (program_header (length (bytes_from start c.args.words.now))) (bytes_from start c.args.words.now)
    c.file_header.ensures (c.program_header.ensures ∙ ap program_header count) bytes
