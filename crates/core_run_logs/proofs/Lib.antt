mod Off
